use Rattle.std.proofs.Common.{take, map}
use Rattle.chain_types.specs.StageView.{stage_view}
use Rattle.chain_run.specs.Sound.{WindowsFit, IsMore}
use Rattle.chain_run.proofs.need.with_stages.Given as goal

abbrev pub invariant-loop-stage : goal.invariant-loop-stage
invariant-loop-stage l = IsMore l.fn.need.count l.fn.need.bytes l.all.count l.all.bytes × WindowsFit l.all.count l.all.bytes (map stage_view (take l.stage-index l.stages))
