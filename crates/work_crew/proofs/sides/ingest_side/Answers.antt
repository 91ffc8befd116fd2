use Rattle.std.proofs.Common.{rules, ◌≡◌, sym, refl, ap, ◌∙◌, subst, Some}
use Rattle.std.specs.Prelude.{slice_get, IfOk}
use Rattle.std.proofs.lemmas.Option.{slice_get-get_or, get_or_from_slice_get}
use Rattle.work_crew.specs.JobView.{job_view}
use Rattle.work_crew.specs.Ingested.{HasSentAll}
use Rattle.work_core.specs.declared.job.TenantJob.{TenantJob}
use Rattle.work_crew.proofs.sides.ingest_side.Goals as goal

pub ingest-outcome-requires-clause-lane : goal.ingest-outcome-requires-clause-lane
ingest-outcome-requires-clause-lane g c κs within =
    let r = c.requires.ready in
    let x = c.args.side.now in
    r.lane_of c.index-lanes-t.result c.index-jobs-t.result (slice_get-get_or c.args.lanes.now x.lane c.index-lanes-t.result r.there ∙ ap Some (sym c.index-lanes-t.is))
    (slice_get-get_or c.args.jobs.now x.lane c.index-jobs-t.result r.job_there ∙ ap Some (sym c.index-jobs-t.is))

pub returns : goal.returns
returns g c =
    let e = c.ingest-outcome.ensures in
    let x = c.args.side.now in
    let seat = c.ingest-outcome.new.seat in
    let f = g.K.LaneKit.ingest_facts seat in
    let is : (job : TenantJob) → slice_get c.args.jobs.now x.lane ≡ Some job → c.index-jobs-t.result ≡ job =
    λ job at. c.index-jobs-t.is ∙ get_or_from_slice_get c.args.jobs.now x.lane job c.index-jobs-t.result at in record {
      sent = record {
        lane = refl;
        own = λ lane at. subst (λ l. g.K.LaneKit.is_ingest_of l seat) (c.index-lanes-t.is ∙ get_or_from_slice_get c.args.lanes.now x.lane lane c.index-lanes-t.result at) e.own;
        finished = e.finished;
        told = search rules;
        sent = λ job at. subst (λ (j : TenantJob). IfOk c.ingest-outcome.result (λ refused. HasSentAll c.args.workers (job_view j) refused f)) (is job at) e.sent;
        no_memory = e.no_memory;
      };
    }
