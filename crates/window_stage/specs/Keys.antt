-- The keys of what a window stage leaves.
use Rattle.std.specs.Prelude.{ℕ, suc, ◌≡◌, ◌+◌, ◌⊎◌, List, [], ◌∷◌}
use Rattle.std.specs.List.{AllByRecursion}
use Rattle.brick_spec.specs.Flow.{Flow}
use Rattle.brick_spec.specs.FlowStage.{FlowItem, Drop}
use Rattle.flow_spec.specs.Window.{window_stage}

-- they have the keys (a, j), (a, j + 1) and so on, in order
abbrev pub AreKeyed : ℕ → ℕ → List FlowItem → Type 0
AreKeyed a j [] = Unit {0}
AreKeyed a j (x ∷ xs) = (x.item.a ≡ a) × (x.item.j ≡ j) × AreKeyed a (suc j) xs

-- What is left of an item of key (k, 0) has keys (k, 0), (k, 1) and so on, or from (k, 1) on. What is dropped is the
-- item. The rests have keys (n + flow, 0) and (n + flow, 1), or one of these. So each key stands once, and the keys
-- rise.
pub record KeysAre (size reach : ℕ) (flow : Flow) : Type 0 where
  pub on_item : (before : List FlowItem) (x : FlowItem) → x.item.j ≡ 0
      → AreKeyed x.item.a 0 ((window_stage size reach flow).on_item before x).passed
      ⊎ AreKeyed x.item.a 1 ((window_stage size reach flow).on_item before x).passed
  pub dropped : (before : List FlowItem) (x : FlowItem)
      → AllByRecursion (λ (d : Drop). d.item ≡ x.item) ((window_stage size reach flow).on_item before x).dropped
  -- whatever the second part of the item's key is
  pub same_record : (before : List FlowItem) (x : FlowItem)
      → AllByRecursion (λ (y : FlowItem). y.item.a ≡ x.item.a) ((window_stage size reach flow).on_item before x).passed
  pub at_end : (items : List FlowItem) (n : ℕ)
      → AreKeyed (n + flow.number) 0 ((window_stage size reach flow).at_end items n).passed
      ⊎ AreKeyed (n + flow.number) 1 ((window_stage size reach flow).at_end items n).passed

abbrev pub WindowKeys : Type 0
WindowKeys = (size reach : ℕ) (flow : Flow) → KeysAre size reach flow
