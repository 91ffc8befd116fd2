-- The parts of a chain of the code as a chain of the definitions.
use Rattle.std.specs.Prelude.{ℕ, List, map, Option, option_map}
use Rattle.chain_spec.specs.ChainSet as spec
use Rattle.flow_key.specs.View.{plan_view}
use Rattle.chain_types.specs.StageView.{stages_view}
use Rattle.chain_types.specs.GroupView.{group_view}
use Rattle.flow_key.specs.declared.plan.NatPlan.{NatPlan}
use Rattle.chain_types.specs.declared.stage.Stage.{Stage}
use Rattle.chain_types.specs.declared.group.Group.{Group}
use Rattle.chain_types.specs.declared.words.Dry.{Dry}
use Rattle.chain_types.specs.declared.words.Dry.TheVariants as dry
use Rattle.chain_types.specs.declared.words.Unparsed.{Unparsed}
use Rattle.chain_types.specs.declared.words.Unparsed.TheVariants as unparsed

abbrev pub dry_view : Dry → spec.Dry
dry_view dry.Wait = spec.DryWait
dry_view dry.Drop = spec.DryDrop

abbrev pub unparsed_view : Unparsed → spec.Unparsed
unparsed_view unparsed.Pass = spec.UnparsedPass
unparsed_view unparsed.Drop = spec.UnparsedDrop

abbrev pub chain_parts : List ℕ → List ℕ → ℕ → ℕ → Dry → Unparsed → Option NatPlan → List Stage → List Group
    → List (List ℕ) → spec.Chain
chain_parts name capture buffers bytes dry unparsed nat stages groups outputs = record {
  name = name;
  capture = capture;
  buffers = buffers;
  bytes = bytes;
  dry = dry_view dry;
  unparsed = unparsed_view unparsed;
  nat = option_map plan_view nat;
  stages = stages_view stages;
  groups = map group_view groups;
  outputs = outputs;
}
