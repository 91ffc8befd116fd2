use Rattle.std.proofs.Common.{sym, subst, ◌∙◌}
use Rattle.std.specs.List.{AllByRecursion}
use Rattle.batch_ops.specs.declared.batch.Work.{Work}
use Rattle.flow_work.specs.Buffers.{work_buffer}
use Rattle.tenant_run.specs.Turns.{IsOf}
use Rattle.tenant_run.proofs.Turning.{buffers_of_works, shuffled_are}
use Rattle.tenant_run.proofs.turns.take_turn.Goals as goal

pub returns-clause-carries : goal.returns-clause-carries
returns-clause-carries g c = λ room carried.
    let turn = c.turn.ensures.took in
    record {
      usable = turn.stays_ready;
      open_work = turn.still ∙ carried.open_work;
      works = sym c.failed.ensures ∙ c.if-failed.false;
      waiting = subst (AllByRecursion (λ (w : Work). IsOf room (work_buffer w))) (sym c.turn.ensures.empty) tt;
      lying = shuffled_are room _ _ turn.buffers (buffers_of_works room _ carried.waiting);
    }
