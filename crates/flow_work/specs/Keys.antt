-- Stages that keep a flow's keys.
use Rattle.std.specs.Prelude.{ℕ, ◌≡◌, ◌+◌, List, [], ◌∷◌}
use Rattle.std.specs.List.{AllByRecursion}
use Rattle.brick_spec.specs.Flow.{Flow}
use Rattle.brick_spec.specs.FlowStage.{FlowItem, FlowStage}
use Rattle.flow_spec.specs.Plan.{Row, LeafPlan, Below, Output, Inner, GroupPlan, Plan}

-- what holds of an item that comes holds of those that it becomes, and it holds of those that are added at the end
pub record Keeps (P : FlowItem → Type 0) (n : ℕ) (s : FlowStage) : Type 0 where
  pub on_item : (before : List FlowItem) (x : FlowItem) → P x → AllByRecursion P (s.on_item before x).passed
  pub at_end : (all : List FlowItem) → AllByRecursion P (s.at_end all n).passed

-- each stage keeps a flow's keys
abbrev pub RowKeeps : Row → Type 0
RowKeeps row = (owner : ℕ → ℕ) (f : Flow) (n : ℕ) → owner (n + f.number) ≡ f.number
    → AllByRecursion (Keeps (λ x. owner x.item.a ≡ f.number) n) (row f)

abbrev pub BelowKeeps : Below → Type 0
BelowKeeps Output = Unit {0}
BelowKeeps (Inner ls) = AllByRecursion (λ (l : LeafPlan). RowKeeps l.row) ls

abbrev pub PlanKeeps : Plan → Type 0
PlanKeeps p = RowKeeps p.row × AllByRecursion (λ (g : GroupPlan). RowKeeps g.row × BelowKeeps g.below) p.groups
