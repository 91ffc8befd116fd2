use Rattle.std.proofs.Common.{◌∷◌, [], None, refl}
use Rattle.brick_base.specs.Flow.{flow_of}
use Rattle.batch_ops.specs.Operator.{work_item}
use Rattle.batch_ops.proofs.Stages.{step_passes}
use Rattle.chain_nodes.proofs.NoRows.{passes_all}
use Rattle.batch_ops.specs.Stage.{RowStands}
use Rattle.chain_nodes.proofs.none.NoStagesOperator.step.Goals as goal

pub returns : goal.returns
returns c =
    step_passes (λ p flow came left. RowStands [] came left) (λ p. Unit {0}) c.args.self.now tt c.args.class.now c.args.p c.args.p c.args.out.now c.pass.new.self refl c.pass.ensures.grows c.pass.ensures.spare
    (passes_all c.args.self.now (flow_of c.args.class.now) (work_item c.args.class.now c.args.p ∷ []) None)
