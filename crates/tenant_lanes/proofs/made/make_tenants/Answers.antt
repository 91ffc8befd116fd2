use Rattle.std.proofs.Common.{map, ◌∙◌}
use Rattle.std.proofs.lemmas.List.{length-map}
use Rattle.std.proofs.lemmas.Result.{IfOk-weaker}
use Rattle.std.proofs.lemmas.Slice.Zip.{AllZip-long}
use Rattle.run_spec.specs.Books.{IsBookOf}
use Rattle.work_crew.specs.JobView.{job_view}
use Rattle.tenant_lanes.proofs.Making.{all_made}
use Rattle.tenant_lanes.proofs.made.make_tenants.Goals as goal

pub returns-clause-done : goal.returns-clause-done
returns-clause-done g c = IfOk-weaker c.run_jobs.result _ _ (λ done r.
    let books = AllZip-long (IsBookOf c.args.workers) (map job_view c.args.jobs.now) r.0 r.2 ∙ length-map c.args.jobs.now job_view in
    (r.0, r.1, r.2, all_made g.W.ChainWork.answer c.answers_mean.ensures c.args.workers c.requires.workers.0 c.workers_make_tenant.ensures c.args.jobs.now r.0 done.items books r.3 r.4))
    c.run_jobs.ensures.done
