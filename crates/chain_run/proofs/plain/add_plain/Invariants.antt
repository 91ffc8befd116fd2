use Rattle.std.proofs.Common.{take, map}
use Rattle.std.specs.Prelude.{option_map}
use Rattle.flow_key.specs.View.{plan_view}
use Rattle.chain_types.specs.StageView.{stage_view}
use Rattle.chain_run.specs.Plain.{AddsPlain}
use Rattle.chain_run.proofs.plain.add_plain.Given as goal

abbrev pub invariant-loop-stage : goal.invariant-loop-stage
invariant-loop-stage l = AddsPlain (option_map plan_view l.nat) (map stage_view (take l.stage-index l.stages)) l.fn.plain.items l.plain.items
