-- What a tenant's chain makes of a flow is what its plan means.
use Rattle.std.proofs.Common.{◌≡◌, ℕ, List, [], ◌∷◌, map, Option, refl, ap, ◌∙◌}
use Rattle.brick_spec.specs.Flow.{Flow}
use Rattle.brick_spec.specs.FlowStage.{FlowStage, FlowInput}
use Rattle.brick_spec.specs.Match.{Match}
use Rattle.flow_spec.specs.Parts.{Parts, Part, whole, shared, staged_by}
use Rattle.flow_spec.specs.Plan.{LeafPlan, GroupPlan, Plan, takes_by, leaf_part, group_part, made_below, flow_meaning}
use Rattle.flow_work.specs.Meaning.{Meaning}
use Rattle.flow_work.specs.Node.{pipe_makes, fan_makes, fan_parts}
use Rattle.chain_nodes.specs.declared.either.Either.{Either}
use Rattle.chain_nodes.specs.declared.either.Either.TheVariants.{First, Second}
use Rattle.chain_nodes.specs.declared.fan.Fan.{Fan}
use Rattle.chain_nodes.specs.declared.leaf.LeafList.{LeafList}
use Rattle.chain_nodes.specs.declared.pipe.Pipe.{Pipe}
use Rattle.chain_nodes.specs.Either.{either_makes}
use Rattle.chain_nodes.specs.PlanOf.{BelowNode, GroupNode, leaf_plans, below_plan, group_row, group_below, group_plans, plan_of}

module _ {P : Type 0} (row_at : P → Flow → List FlowStage) where
  abbrev list_made : LeafList → Meaning
  list_made l flow came = whole came

  abbrev leaf_made : Pipe P LeafList → Meaning
  leaf_made t = pipe_makes row_at list_made t.path t.next

  abbrev fan_made : Fan (Pipe P LeafList) → Meaning
  fan_made t = fan_makes leaf_made t.groups t.places.items

  abbrev below_made : BelowNode P → Meaning
  below_made = either_makes list_made fan_made

  abbrev staged_made : Pipe P (BelowNode P) → Meaning
  staged_made t = pipe_makes row_at below_made t.path t.next

  abbrev group_made : GroupNode P → Meaning
  group_made = either_makes below_made staged_made

  leaves_are : (flow : Flow) (ms : List (Option Match)) (ts : List (Pipe P LeafList)) → fan_parts leaf_made flow ms ts ≡ map (leaf_part flow) (leaf_plans row_at ms ts)
  leaves_are flow [] ts = refl
  leaves_are flow (m ∷ ms) [] = refl
  leaves_are flow (m ∷ ms) (t ∷ ts) = ap (λ ps. leaf_part flow (record { wanted = m; row = row_at t.path }) ∷ ps) (leaves_are flow ms ts)

  below_is : (flow : Flow) (p : P) (b : BelowNode P) → ◌≡◌ {A = FlowInput → Parts} (λ came. pipe_makes row_at (either_makes list_made fan_made) p b flow came) (λ came. made_below flow (row_at p) (below_plan row_at b) came)
  below_is flow p (First l) = refl
  below_is flow p (Second fan) = λ i came. staged_by (row_at p flow) (shared (leaves_are flow fan.groups fan.places.items i)) came

  -- without stages
  bare_is : (flow : Flow) (b : BelowNode P) → ◌≡◌ {A = FlowInput → Parts} (λ came. below_made b flow came) (λ came. made_below flow (λ f. []) (below_plan row_at b) came)
  bare_is flow (First l) = refl
  bare_is flow (Second fan) = λ i came. staged_by [] (shared (leaves_are flow fan.groups fan.places.items i)) came

  group_is : (flow : Flow) (t : GroupNode P) → ◌≡◌ {A = FlowInput → Parts} (λ came. group_made t flow came) (λ came. made_below flow (group_row row_at t) (group_below row_at t) came)
  group_is flow (First b) = bare_is flow b
  group_is flow (Second t) = below_is flow t.path t.next

  pub groups_are : (flow : Flow) (ms : List (Option Match)) (ts : List (GroupNode P)) → fan_parts group_made flow ms ts ≡ map (group_part flow) (group_plans row_at ms ts)
  groups_are flow [] ts = refl
  groups_are flow (m ∷ ms) [] = refl
  groups_are flow (m ∷ ms) (t ∷ ts) =
      ap (λ (made : FlowInput → Parts). record { takes = takes_by m; makes = made } ∷ fan_parts group_made flow ms ts) (group_is flow t)
      ∙ ap (λ ps. group_part flow (record { wanted = m; row = group_row row_at t; below = group_below row_at t }) ∷ ps) (groups_are flow ms ts)

  pub root_means : (t : Pipe P (Fan (GroupNode P))) → ◌≡◌ {A = Meaning} (pipe_makes row_at (λ (f : Fan (GroupNode P)). fan_makes group_made f.groups f.places.items) t.path t.next) (flow_meaning (plan_of row_at t))
  root_means t = λ i flow came. staged_by (row_at t.path flow) (shared (groups_are flow t.next.groups t.next.places.items i)) came
