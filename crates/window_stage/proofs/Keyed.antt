-- The keys of what a window stage leaves.
use Rattle.std.proofs.Common.{◌≡◌, ℕ, zero, suc, ◌+◌, ◌-◌, ◌/◌, ◌%◌, Bool, true, false, nat_eq, List, [], ◌∷◌, ◌++◌, map, Option, Some, None, Ok, Err, refl, sym, subst, inl, inr, append-nil, if◌then◌else◌}
use Rattle.std.specs.Prelude.{length, flat_map, option_map, ◌⊎◌}
use Rattle.std.specs.List.{AllByRecursion}
use Rattle.std.specs.Option.{option_to_list}
use Rattle.brick_spec.specs.Flow.{Flow, Direction, Forward, Reversed}
use Rattle.brick_spec.specs.FlowStage.{FlowItem, Drop, FlowOutput, left_by}
use Rattle.brick_spec.specs.Item.{Item}
use Rattle.brick_spec.specs.Layer.{Layer, header_in, payload_in, tcp_layer}
use Rattle.brick_spec.specs.PacketizedWindow as spec
use Rattle.brick_spec.specs.Stage.{Reach}
use Rattle.brick_spec.specs.Stream.{Reassembly, ready_of, counts, is_empty}
use Rattle.flow_spec.specs.FlowStream.{segment_at, stream_of, ready_in}
use Rattle.flow_spec.specs.Window.{windows_from, triggered, rest_of, emitted_from, is_marked, own_by, own_left, windows_left, told_at, window_told, rest_in, window_rest, last_template, window_stage}
use Rattle.window_stage.specs.Keys.{AreKeyed, WindowKeys}

windows_keyed : (size : ℕ) (r : Reassembly) (d : Direction) (m : spec.Template) (a j i n : ℕ) → AreKeyed a j (windows_from size r d m a j i n)
windows_keyed size r d m a j i zero = tt
windows_keyed size r d m a j i (suc n) = (refl, refl, windows_keyed size r d m a (suc j) (suc i) n)

windows_left_keyed : (size reach : ℕ) (before : List FlowItem) (x : FlowItem) → AreKeyed x.item.a 1 (windows_left size reach before x)
windows_left_keyed size reach before x = by (spec.template_of x.item) where
  makes : spec.Template → List FlowItem
  makes m = triggered size (ready_in reach x.dir before) (stream_of reach x.dir (before ++ x ∷ [])) x.dir x.item.a m

  by : (o : Option spec.Template) → AreKeyed x.item.a 1 (flat_map makes (option_to_list o))
  by None = tt
  by (Some m) = subst (AreKeyed x.item.a 1) (sym (append-nil (makes m))) (windows_keyed size (stream_of reach x.dir (before ++ x ∷ [])) x.dir m x.item.a 1 (ready_in reach x.dir before / size) (ready_of (stream_of reach x.dir (before ++ x ∷ [])).payloads / size - ready_in reach x.dir before / size))

-- one item, and then those from the next key on
own_keyed : (x : FlowItem) (marked : Bool) (ws : List FlowItem) → x.item.j ≡ 0 → AreKeyed x.item.a 1 ws → AreKeyed x.item.a 0 (own_by marked x ++ ws) ⊎ AreKeyed x.item.a 1 (own_by marked x ++ ws)
own_keyed x false ws zeroth keyed = inr keyed
own_keyed x true ws zeroth keyed = by (spec.bare_frame x.item.frame) where
  bares : Option (List ℕ) → List FlowItem
  bares o = map (λ (i : Item). record { dir = x.dir; item = i }) (option_to_list (option_map (λ frame. record x.item { original = length frame; frame = frame }) o))

  by : (o : Option (List ℕ)) → AreKeyed x.item.a 0 (bares o ++ ws) ⊎ AreKeyed x.item.a 1 (bares o ++ ws)
  by None = inr keyed
  by (Some frame) = inl (refl, zeroth, keyed)

told_keyed : (size reach : ℕ) (before : List FlowItem) (x : FlowItem) (o : Option Layer) → x.item.j ≡ 0 → AreKeyed x.item.a 0 (told_at size reach before x o).passed ⊎ AreKeyed x.item.a 1 (told_at size reach before x o).passed
told_keyed size reach before x None zeroth = inl (refl, zeroth, tt)
told_keyed size reach before x (Some t) zeroth = by (is_empty (payload_in x.item.frame t)) (counts reach (stream_of reach x.dir before) (segment_at x.item.frame t)) where
  counted : FlowOutput
  counted = record { passed = own_left x t ++ windows_left size reach before x; dropped = [] }

  by : (a b : Bool) → AreKeyed x.item.a 0 (if a then left_by x (Ok x.item) else (if b then counted else left_by x (Err Reach))).passed ⊎ AreKeyed x.item.a 1 (if a then left_by x (Ok x.item) else (if b then counted else left_by x (Err Reach))).passed
  by true b = inl (refl, zeroth, tt)
  by false true = own_keyed x (is_marked (header_in x.item.frame t)) (windows_left size reach before x) zeroth (windows_left_keyed size reach before x)
  by false false = inl tt

told_drops : (size reach : ℕ) (before : List FlowItem) (x : FlowItem) (o : Option Layer) → AllByRecursion (λ (d : Drop). d.item ≡ x.item) (told_at size reach before x o).dropped
told_drops size reach before x None = tt
told_drops size reach before x (Some t) = by (is_empty (payload_in x.item.frame t)) (counts reach (stream_of reach x.dir before) (segment_at x.item.frame t)) where
  counted : FlowOutput
  counted = record { passed = own_left x t ++ windows_left size reach before x; dropped = [] }

  by : (a b : Bool) → AllByRecursion (λ (d : Drop). d.item ≡ x.item) (if a then left_by x (Ok x.item) else (if b then counted else left_by x (Err Reach))).dropped
  by true b = tt
  by false true = tt
  by false false = (refl, tt)

-- THE RECORD'S NUMBER

-- of keys in order the first parts are one number
all_of_record : (a j : ℕ) (ys : List FlowItem) → AreKeyed a j ys → AllByRecursion (λ (y : FlowItem). y.item.a ≡ a) ys
all_of_record a j [] keyed = tt
all_of_record a j (y ∷ ys) keyed = (keyed.0, all_of_record a (suc j) ys keyed.2)

-- the bare segment has the item's own number
own_of_record : (x : FlowItem) (marked : Bool) (ws : List FlowItem) → AllByRecursion (λ (y : FlowItem). y.item.a ≡ x.item.a) ws → AllByRecursion (λ (y : FlowItem). y.item.a ≡ x.item.a) (own_by marked x ++ ws)
own_of_record x false ws same = same
own_of_record x true ws same = by (spec.bare_frame x.item.frame) where
  bares : Option (List ℕ) → List FlowItem
  bares o = map (λ (i : Item). record { dir = x.dir; item = i }) (option_to_list (option_map (λ frame. record x.item { original = length frame; frame = frame }) o))

  by : (o : Option (List ℕ)) → AllByRecursion (λ (y : FlowItem). y.item.a ≡ x.item.a) (bares o ++ ws)
  by None = same
  by (Some frame) = (refl, same)

told_of_record : (size reach : ℕ) (before : List FlowItem) (x : FlowItem) (o : Option Layer) → AllByRecursion (λ (y : FlowItem). y.item.a ≡ x.item.a) (told_at size reach before x o).passed
told_of_record size reach before x None = (refl, tt)
told_of_record size reach before x (Some t) = by (is_empty (payload_in x.item.frame t)) (counts reach (stream_of reach x.dir before) (segment_at x.item.frame t)) where
  counted : FlowOutput
  counted = record { passed = own_left x t ++ windows_left size reach before x; dropped = [] }

  by : (a b : Bool) → AllByRecursion (λ (y : FlowItem). y.item.a ≡ x.item.a) (if a then left_by x (Ok x.item) else (if b then counted else left_by x (Err Reach))).passed
  by true b = (refl, tt)
  by false true = own_of_record x (is_marked (header_in x.item.frame t)) (windows_left size reach before x) (all_of_record x.item.a 1 (windows_left size reach before x) (windows_left_keyed size reach before x))
  by false false = tt

-- THE ENDS

-- a rest, or none
rest_keyed : (size reach : ℕ) (d : Direction) (a j : ℕ) (items : List FlowItem) → (rest_in size reach d a j items ≡ []) ⊎ ((y : FlowItem) × (y.item.a ≡ a) × (y.item.j ≡ j) × (rest_in size reach d a j items ≡ y ∷ []))
rest_keyed size reach d a j items = by (last_template reach d items) where
  makes : spec.Template → List FlowItem
  makes m = rest_of size (stream_of reach d items) d a j m

  one : (m : spec.Template) (b : Bool) (y : FlowItem) → (y.item.a ≡ a) → (y.item.j ≡ j) → ((if b then [] else y ∷ []) ++ [] ≡ []) ⊎ ((z : FlowItem) × (z.item.a ≡ a) × (z.item.j ≡ j) × ((if b then [] else y ∷ []) ++ [] ≡ z ∷ []))
  one m true y ha hj = inl refl
  one m false y ha hj = inr (y, ha, hj, refl)

  by : (o : Option spec.Template) → (flat_map makes (option_to_list o) ≡ []) ⊎ ((y : FlowItem) × (y.item.a ≡ a) × (y.item.j ≡ j) × (flat_map makes (option_to_list o) ≡ y ∷ []))
  by None = inl refl
  by (Some m) = let r = stream_of reach d items in one m (nat_eq (ready_of r.payloads % size) 0) (emitted_from r d m a j (ready_of r.payloads - ready_of r.payloads % size) (ready_of r.payloads % size)) refl refl

both_keyed : (a : ℕ) (xs ys : List FlowItem) → (xs ≡ []) ⊎ ((y : FlowItem) × (y.item.a ≡ a) × (y.item.j ≡ 0) × (xs ≡ y ∷ [])) → (ys ≡ []) ⊎ ((y : FlowItem) × (y.item.a ≡ a) × (y.item.j ≡ 1) × (ys ≡ y ∷ []))
    → AreKeyed a 0 (xs ++ ys) ⊎ AreKeyed a 1 (xs ++ ys)
both_keyed a xs ys (inl e) (inl f) = inl (subst (λ (zs : List FlowItem). AreKeyed a 0 zs) (λ i. sym e i ++ sym f i) tt)
both_keyed a xs ys (inl e) (inr (y, ha, hj, f)) = inr (subst (λ (zs : List FlowItem). AreKeyed a 1 zs) (λ i. sym e i ++ sym f i) (ha, hj, tt))
both_keyed a xs ys (inr (x, ga, gj, e)) (inl f) = inl (subst (λ (zs : List FlowItem). AreKeyed a 0 zs) (λ i. sym e i ++ sym f i) (ga, gj, tt))
both_keyed a xs ys (inr (x, ga, gj, e)) (inr (y, ha, hj, f)) = inl (subst (λ (zs : List FlowItem). AreKeyed a 0 zs) (λ i. sym e i ++ sym f i) (ga, gj, (ha, hj, tt)))

pub window_keys : WindowKeys
unfolding window_told window_rest
window_keys size reach flow = record {
  on_item = λ before x zeroth. told_keyed size reach before x (tcp_layer x.item.frame) zeroth;
  dropped = λ before x. told_drops size reach before x (tcp_layer x.item.frame);
  same_record = λ before x. told_of_record size reach before x (tcp_layer x.item.frame);
  at_end = λ items n. both_keyed (n + flow.number) (rest_in size reach Forward (n + flow.number) 0 items) (rest_in size reach Reversed (n + flow.number) 1 items)
      (rest_keyed size reach Forward (n + flow.number) 0 items) (rest_keyed size reach Reversed (n + flow.number) 1 items);
}

-- WHAT HOLDS OF A FLOW'S KEYS, where it is a fact of their first parts, holds of those that the stage makes

all_by_record : (Q : ℕ → Type 0) (a : ℕ) (ys : List FlowItem) → Q a → AllByRecursion (λ (y : FlowItem). y.item.a ≡ a) ys → AllByRecursion (λ (y : FlowItem). Q y.item.a) ys
all_by_record Q a [] holds same = tt
all_by_record Q a (y ∷ ys) holds same = (subst Q (sym same.0) holds, all_by_record Q a ys holds same.1)

pub keeps_on_item : (size reach : ℕ) (flow : Flow) (Q : ℕ → Type 0) (before : List FlowItem) (x : FlowItem) → Q x.item.a → AllByRecursion (λ (y : FlowItem). Q y.item.a) ((window_stage size reach flow).on_item before x).passed
keeps_on_item size reach flow Q before x holds = all_by_record Q x.item.a ((window_stage size reach flow).on_item before x).passed holds ((window_keys size reach flow).same_record before x)

pub keeps_at_end : (size reach : ℕ) (flow : Flow) (Q : ℕ → Type 0) (items : List FlowItem) (n : ℕ) → Q (n + flow.number) → AllByRecursion (λ (y : FlowItem). Q y.item.a) ((window_stage size reach flow).at_end items n).passed
keeps_at_end size reach flow Q items n holds = by ((window_keys size reach flow).at_end items n) where
  rests : List FlowItem
  rests = ((window_stage size reach flow).at_end items n).passed

  by : AreKeyed (n + flow.number) 0 rests ⊎ AreKeyed (n + flow.number) 1 rests → AllByRecursion (λ (y : FlowItem). Q y.item.a) rests
  by (inl keyed) = all_by_record Q (n + flow.number) rests holds (all_of_record (n + flow.number) 0 rests keyed)
  by (inr keyed) = all_by_record Q (n + flow.number) rests holds (all_of_record (n + flow.number) 1 rests keyed)
