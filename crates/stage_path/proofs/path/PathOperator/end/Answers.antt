use Rattle.std.proofs.Common.{refl}
use Rattle.batch_ops.proofs.ThenCalls.{failed_ends}
use Rattle.stage_path.proofs.Paths.{path_ends}
use Rattle.stage_path.proofs.path.PathOperator.end.Goals as goal

pub returns-then-self : goal.returns-then-self
returns-then-self g c = failed_ends _ c.args.self.now c.args.class.now c.args.records c.args.out.now c.requires.ready c.if-self.true

pub returns : goal.returns
returns g c =
    path_ends g.S.TreatRead.kind g.B.Operator.meaning (λ p. p.before.stages.items) (λ p. p.behind) (λ p. p.failed) g.met.S.TreatRead.no_rest c.args.self.now _ c.args.class.now c.args.records c.args.out.now c.end-outcome.new.out c.end-outcome.result
    refl c.end-outcome.ensures c.if-self.false c.is_err-self.ensures.value
