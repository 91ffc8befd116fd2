use Rattle.std.proofs.Common.{sym, ap, ◌∙◌, subst}
use Rattle.std.specs.Prelude.{List, ℕ}
use Rattle.work_crew.specs.JobView.{job_view}
use Rattle.work_crew.specs.Ingested.{HasIngested, HasSentAll}
use Rattle.work_crew.proofs.Begins.{new_ingest, finish_keeps}
use Rattle.work_crew.proofs.Wholes.{sent_all}
use Rattle.work_crew.proofs.sending.ingest.Goals as goal

pub send_all-requires-clause-before : goal.send_all-requires-clause-before
send_all-requires-clause-before g c κs within =
    subst (λ (l : List ℕ). HasIngested (job_view c.args.job.now) c.args.workers 0 l (g.K.LaneKit.ingest_facts c.args.seat.now)) (sym c.in-Ok.ensures.items) (new_ingest _ _ _ c.requires.new)

pub returns-in-Ok-clause-sent : goal.returns-in-Ok-clause-sent
returns-in-Ok-clause-sent g c =
    subst (λ (l : List ℕ). HasSentAll c.args.workers (job_view c.args.job.now) l (g.K.LaneKit.ingest_facts c.finish.new.seat)) (sym c.of.ensures)
    (sent_all (job_view c.args.job.now) c.args.workers _ _ c.requires.some (finish_keeps _ _ _ _ _ _ c.send_all.ensures.after c.finish.ensures.finished))

pub returns-in-Err-clause-no_memory : goal.returns-in-Err-clause-no_memory
returns-in-Err-clause-no_memory g c = ap (λ f. f.sent) c.finish-in-Err.ensures.finished.same ∙ c.requires.new.sent
