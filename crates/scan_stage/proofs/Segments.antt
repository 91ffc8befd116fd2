-- The segments of a direction, with one item more.
use Rattle.std.proofs.Common.{◌≡◌, Bool, true, false, List, [], ◌∷◌, ◌++◌, Option, None, refl, ap, ◌∙◌, append-nil, if◌then◌else◌}
use Rattle.std.specs.Option.{option_to_list}
use Rattle.std.proofs.lemmas.Grind.{flat_map-append}
use Rattle.brick_spec.specs.Flow.{Direction}
use Rattle.brick_spec.specs.FlowStage.{FlowItem}
use Rattle.brick_spec.specs.Stream.{StreamSegment}
use Rattle.flow_spec.specs.FlowStream.{segment_of, is_same, segments_at, segments_of}

segments_more : (dir : Direction) (items : List FlowItem) (x : FlowItem) → segments_of dir (items ++ x ∷ []) ≡ segments_of dir items ++ segments_at dir x
segments_more dir items x = flat_map-append (segments_at dir) items (x ∷ []) ∙ ap (λ (ss : List StreamSegment). segments_of dir items ++ ss) (append-nil (segments_at dir x))

-- an item without the TCP layer is none
pub segments_without : (dir : Direction) (x : FlowItem) (items : List FlowItem) → segment_of x.item ≡ None → segments_of dir (items ++ x ∷ []) ≡ segments_of dir items
segments_without dir x items none =
    segments_more dir items x
    ∙ ap (λ (o : Option StreamSegment). segments_of dir items ++ (if is_same dir x.dir then option_to_list o else [])) none
    ∙ ap (λ (ss : List StreamSegment). segments_of dir items ++ ss) (either_none (is_same dir x.dir))
    ∙ append-nil (segments_of dir items)
  where
    either_none : (b : Bool) → ◌≡◌ {A = List StreamSegment} (if b then [] else []) []
    either_none true = refl
    either_none false = refl
