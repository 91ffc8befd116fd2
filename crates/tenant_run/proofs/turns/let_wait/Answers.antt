use Rattle.std.proofs.Common.{sym, subst, refl}
use Rattle.std.specs.List.{AllByRecursion}
use Rattle.batch_ops.specs.declared.batch.Work.{Work}
use Rattle.flow_work.specs.Buffers.{work_buffer}
use Rattle.tenant_run.specs.Turns.{IsOf}
use Rattle.tenant_run.proofs.Turning.{all_both, waited}
use Rattle.tenant_run.proofs.turns.let_wait.Goals as goal

pub returns-clause-carries : goal.returns-clause-carries
returns-clause-carries g c = λ room own way.
    record {
      usable = way.usable;
      open_work = way.open_work;
      works = way.works;
      waiting = subst (AllByRecursion (λ (w : Work). IsOf room (work_buffer w))) (sym c.push.ensures) (all_both _ _ _ way.waiting (own, tt));
      lying = way.lying;
    }

pub returns-clause-waits : goal.returns-clause-waits
returns-clause-waits g c = λ list way.
    (way.0, way.1, waited list way.0 _ _ _ _ way.2 c.push.ensures refl)
