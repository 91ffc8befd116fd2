use Rattle.batch_ops.proofs.Treats.{stage_steps}
use Rattle.scan_stage.proofs.stage.ScanStageOperator.step.Goals as goal

pub returns : goal.returns
returns c = stage_steps _ c.args.self.now c.treat-treated.new.self c.args.class.now c.args.p c.treat-treated.result c.args.out.now c.settle.new.self c.settle.result c.treat-treated.ensures c.settle.ensures.grows c.settle.ensures.spare c.settle.ensures.lost
