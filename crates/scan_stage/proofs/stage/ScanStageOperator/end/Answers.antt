use Rattle.std.proofs.Common.{refl}
use Rattle.batch_ops.proofs.ThenCalls.{failed_ends}
use Rattle.batch_ops.proofs.Treats.{stage_ends}
use Rattle.scan_stage.proofs.stage.ScanStageOperator.end.Goals as goal

pub returns-then-self : goal.returns-then-self
returns-then-self c = failed_ends _ c.args.self.now c.args.«_class».now c.args.«_records» c.args.«_out».now c.requires.ready c.if-self.true

pub returns : goal.returns
returns c = stage_ends _ (λ _ _ _ _. refl) c.args.self.now c.args.«_class».now c.args.«_records» c.args.«_out».now c.if-self.false
