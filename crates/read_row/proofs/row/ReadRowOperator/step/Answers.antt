use Rattle.batch_ops.specs.Treat.{in_row}
use Rattle.batch_ops.proofs.Treats.{stages_same}
use Rattle.std.proofs.Common.{refl}
use Rattle.batch_ops.proofs.Treated.{treated_steps_by}
use Rattle.read_row.proofs.row.ReadRowOperator.step.Goals as goal

pub returns : goal.returns
returns g c =
    let treats = c.treat-treated.ensures.treats in
    treated_steps_by (in_row g.S.TreatRead.kind (λ r. r.stages.items) (λ r. r.failed)) c.args.self.now c.treat-treated.new.self c.args.class.now c.args.p c.treat-treated.result c.args.out.now c.settle.new.self c.settle.result refl refl (stages_same g.S.TreatRead.kind _ _ treats.same) tt
    treats.kept treats.goes treats.others c.treat-treated.ensures.lost c.treat-treated.ensures.stays_failed c.settle.ensures.grows c.settle.ensures.spare c.settle.ensures.lost
