use Rattle.brick_base.specs.Flow.{flow_of}
use Rattle.batch_ops.specs.Treat.{RowHolds, held_by, stages_at}
use Rattle.batch_ops.specs.Operator.{may_fail}
use Rattle.batch_ops.proofs.Stages.{none_ends, ends_with_row}
use Rattle.batch_ops.proofs.ThenCalls.{failed_ends}
use Rattle.batch_ops.proofs.Treats.{row_rests}
use Rattle.read_row.proofs.row.ReadRowOperator.end.Goals as goal

pub returns-then-self : goal.returns-then-self
returns-then-self g c = failed_ends _ c.args.self.now c.args.«_class».now c.args.«_records» c.args.«_out».now c.requires.ready c.if-self.true

pub returns : goal.returns
returns g c =
    ends_with_row (may_fail (λ r flow came left. RowHolds (held_by g.S.TreatRead.kind) r.stages.items flow came left) (λ r. r.failed)) (λ r flow. stages_at g.S.TreatRead.kind r.stages.items flow) c.args.self.now c.args.«_class».now c.args.«_records» c.args.«_out».now c.args.«_out».now _
    (none_ends (λ r flow came left. RowHolds (held_by g.S.TreatRead.kind) r.stages.items flow came left) (λ r. r.failed) c.args.self.now c.args.«_class».now c.args.«_records» c.args.«_out».now c.if-self.false
    (row_rests g.S.TreatRead.kind g.met.S.TreatRead.no_rest c.args.self.now.stages.items (flow_of c.args.«_class».now) c.args.«_records»))
