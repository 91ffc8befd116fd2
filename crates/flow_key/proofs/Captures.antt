-- The classes of the records of a capture, one after another.
use Rattle.std.proofs.Common.{◌≡◌, ◌∙◌, ℕ, ◌+◌, ◌<◌, sym, ap, ap₂, arith, List, [], ◌∷◌, ◌++◌, length, map, take, get_or, Option, Some}
use Rattle.std.specs.List.{slice_get, range_with_len}
use Rattle.std.proofs.lemmas.List.{take_more, map-append}
use Rattle.std.proofs.lemmas.Option.{get_or_from_slice_get, slice_get-map}
use Rattle.std.specs.Option.{option_map}
use Rattle.std.proofs.lemmas.List.FromFn.{map-range_with_len_more}
use Rattle.brick_spec.specs.Capture.{Entry}
use Rattle.brick_spec.specs.Flow as spec_flow
use Rattle.brick_base.specs.declared.flow.Class.{Class}
use Rattle.brick_base.specs.Flow.{class_view}
use Rattle.brick_spec.specs.FlowClass as spec
use Rattle.flow_key.specs.Maps.{ClassifierModel, after_frames}

pub record IsSoFar (plan : Option spec.NatPlan) (frames : List (List ℕ)) (k : ℕ) (known : ClassifierModel) (classes : List Class) : Type 0 where
  pub known_is : known ≡ after_frames plan (take k frames)
  pub classes_are : map class_view classes ≡ map (spec.class_at plan frames) (range_with_len 0 k)

-- the frame of a record
pub frame_at : (entries : List Entry) (k : ℕ) (e : Entry) → slice_get entries k ≡ Some e → get_or (map (λ (x : Entry). x.frame) entries) k [] ≡ e.frame
frame_at entries k e at = get_or_from_slice_get (map (λ (x : Entry). x.frame) entries) k e.frame [] (slice_get-map (λ (x : Entry). x.frame) entries k ∙ ap (option_map (λ (x : Entry). x.frame)) at)

-- a record more
pub so_far_more : (plan : Option spec.NatPlan) (frames : List (List ℕ)) (k : ℕ) (known known' : ClassifierModel) (classes classes' : List Class) (class : Class) (frame : List ℕ)
    → IsSoFar plan frames k known classes → k < length frames → get_or frames k [] ≡ frame → class_view class ≡ spec.class_of plan (take k frames) frame
    → known' ≡ after_frames plan (take k frames ++ frame ∷ []) → classes' ≡ classes ++ class ∷ [] → IsSoFar plan frames (k + 1) known' classes'
so_far_more plan frames k known known' classes classes' class frame so within is class_is next pushed = record {
  known_is = next ∙ ap (λ x. after_frames plan (take k frames ++ x ∷ [])) (sym is) ∙ ap (after_frames plan) (sym (take_more frames k [] within));
  classes_are = ap (map class_view) pushed ∙ map-append class_view classes (class ∷ [])
      ∙ ap₂ (λ (xs : List spec_flow.Class) (x : spec_flow.Class). xs ++ x ∷ []) so.classes_are (class_is ∙ ap (spec.class_of plan (take k frames)) (sym is))
      ∙ sym (map-range_with_len_more (spec.class_at plan frames) 0 k k (omega arith));
}
