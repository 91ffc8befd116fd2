-- What the stages and the groups of a chain mean, flow by flow.
use Rattle.std.specs.Prelude.{List, [], ◌∷◌, ◌++◌, map, Option, Some, None, Ok}
use Rattle.brick_spec.specs.AddressTranslation.{nat_stage}
use Rattle.brick_spec.specs.Firewall.{firewall}
use Rattle.brick_spec.specs.Flow.{Flow}
use Rattle.brick_spec.specs.FlowClass.{NatPlan}
use Rattle.brick_spec.specs.FlowStage.{FlowStage, FlowInput}
use Rattle.brick_spec.specs.Stage.{parsed_stage, ttl_stage, tos_stage, match_stage}
use Rattle.flow_spec.specs.Addressed.{item_stage}
use Rattle.flow_spec.specs.Routing.{route_stage}
use Rattle.flow_spec.specs.Balancing.{balance_stage}
use Rattle.flow_spec.specs.Window.{window_stage}
use Rattle.flow_spec.specs.Scan.{scan_stage}
use Rattle.flow_spec.specs.Parts.{Parts}
use Rattle.flow_spec.specs.Plan as plans
use Rattle.flow_spec.specs.Plan.{Row, LeafPlan, GroupPlan, Plan}
use Rattle.chain_spec.specs.ChainSet as chains
use Rattle.chain_spec.specs.ChainSet.{Chain}

-- a stage `nat` has the tenant's plan; without one, which no accepted chain file has, nothing is translated
abbrev pub translation : Option NatPlan → Flow → FlowStage
translation None flow = item_stage (λ i. Ok i)
translation (Some plan) flow = nat_stage plan flow

-- what a stage of a chain makes of a flow
abbrev pub stage_of : Option NatPlan → Flow → chains.Stage → FlowStage
stage_of nat flow chains.Ttl = item_stage ttl_stage
stage_of nat flow (chains.SetTos value) = item_stage (tos_stage value)
stage_of nat flow (chains.Only wanted) = item_stage (match_stage wanted)
stage_of nat flow (chains.Firewall default established rules) = firewall established rules default
stage_of nat flow (chains.Route mac rows) = item_stage (route_stage mac rows)
stage_of nat flow chains.Nat = translation nat flow
stage_of nat flow (chains.Balance backends changes) = balance_stage backends changes flow
stage_of nat flow (chains.Window size reach) = window_stage size reach flow
stage_of nat flow (chains.Scan text reach) = scan_stage text reach

abbrev pub row_of : Option NatPlan → List chains.Stage → Row
row_of nat stages flow = map (stage_of nat flow) stages

-- what stands before the stages: where frames of class Other are to be dropped, a stage that drops them
abbrev pub before_stages : chains.Unparsed → List FlowStage
before_stages chains.UnparsedPass = []
before_stages chains.UnparsedDrop = item_stage parsed_stage ∷ []

abbrev pub leaf_plan : Option NatPlan → chains.Leaf → LeafPlan
leaf_plan nat l = record { wanted = l.wanted; row = row_of nat l.stages }

abbrev pub below_plan : Option NatPlan → chains.Below → plans.Below
below_plan nat (chains.Output o) = plans.Output
below_plan nat (chains.Inner leaves) = plans.Inner (map (leaf_plan nat) leaves)

abbrev pub group_plan : Option NatPlan → chains.Group → GroupPlan
group_plan nat g = record { wanted = g.wanted; row = row_of nat g.stages; below = below_plan nat g.below }

-- the chain's plan: its stages, and its groups
abbrev pub plan_of : Chain → Plan
plan_of chain = record {
  row = λ flow. before_stages chain.unparsed ++ row_of chain.nat chain.stages flow;
  groups = map (group_plan chain.nat) chain.groups;
}

-- what the chain makes of a flow
abbrev pub flow_meaning : Chain → Flow → FlowInput → Parts
flow_meaning chain flow came = plans.flow_meaning (plan_of chain) flow came
