-- The plan that a tenant's chain follows: its first stages, its groups, and groups in these.
use Rattle.std.specs.Prelude.{ℕ, ◌≡◌, List, [], ◌∷◌, Option}
use Rattle.brick_spec.specs.Flow.{Flow}
use Rattle.brick_spec.specs.FlowStage.{FlowStage}
use Rattle.brick_spec.specs.Match.{Match}
use Rattle.flow_spec.specs.Plan.{Row, LeafPlan, Below, Output, Inner, GroupPlan, Plan}
use Rattle.chain_nodes.specs.declared.either.Either.{Either}
use Rattle.chain_nodes.specs.declared.either.Either.TheVariants.{First, Second}
use Rattle.chain_nodes.specs.declared.fan.Fan.{Fan}
use Rattle.chain_nodes.specs.declared.leaf.LeafList.{LeafList}
use Rattle.chain_nodes.specs.declared.pipe.Pipe.{Pipe}

-- what stands behind a group's stages
abbrev pub BelowNode : Type 0 → Type 0
BelowNode P = Either LeafList (Fan (Pipe P LeafList))

-- a group: where it has no stages, what stands behind them
abbrev pub GroupNode : Type 0 → Type 0
GroupNode P = Either (BelowNode P) (Pipe P (BelowNode P))

module _ {P : Type 0} (row_at : P → Flow → List FlowStage) where
  abbrev pub leaf_plans : List (Option Match) → List (Pipe P LeafList) → List LeafPlan
  leaf_plans [] ts = []
  leaf_plans (m ∷ ms) [] = []
  leaf_plans (m ∷ ms) (t ∷ ts) = record { wanted = m; row = row_at t.path } ∷ leaf_plans ms ts

  abbrev pub below_plan : BelowNode P → Below
  below_plan (First l) = Output
  below_plan (Second fan) = Inner (leaf_plans fan.groups fan.places.items)

  abbrev pub group_row : GroupNode P → Flow → List FlowStage
  group_row (First b) = λ flow. []
  group_row (Second t) = row_at t.path

  abbrev pub group_below : GroupNode P → Below
  group_below (First b) = below_plan b
  group_below (Second t) = below_plan t.next

  abbrev pub group_plans : List (Option Match) → List (GroupNode P) → List GroupPlan
  group_plans [] ts = []
  group_plans (m ∷ ms) [] = []
  group_plans (m ∷ ms) (t ∷ ts) = record { wanted = m; row = group_row t; below = group_below t } ∷ group_plans ms ts

  abbrev pub plan_of : Pipe P (Fan (GroupNode P)) → Plan
  plan_of t = record { row = row_at t.path; groups = group_plans t.next.groups t.next.places.items }
