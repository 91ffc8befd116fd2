use Rattle.std.proofs.Common.{◌≡◌, sym, ap, ◌∙◌, subst, Some}
use Rattle.std.specs.Prelude.{slice_get}
use Rattle.std.proofs.lemmas.Option.{slice_get-get_or, get_or_from_slice_get}
use Rattle.std.proofs.lemmas.Result.{IfOk-weaker}
use Rattle.work_core.specs.declared.job.TenantJob.{TenantJob}
use Rattle.work_crew.specs.JobView.{job_view}
use Rattle.work_crew.specs.Dones.{IsTenantDone}
use Rattle.work_crew.proofs.finishing.end_one.Goals as goal

pub finish_job-requires-clause-lane : goal.finish_job-requires-clause-lane
finish_job-requires-clause-lane g c κs within =
    c.requires.lane c.index-jobs-t.result (slice_get-get_or c.args.jobs.now c.args.end.job c.index-jobs-t.result c.requires.there ∙ ap Some (sym c.index-jobs-t.is))

pub returns : goal.returns
returns g c = IfOk-weaker c.finish_job.result _ _ (λ d h job at.
    subst (λ (j : TenantJob). IsTenantDone g.W.ChainWork.answer c.args.workers (job_view j) c.args.end.lane.refused d) (c.index-jobs-t.is ∙ get_or_from_slice_get c.args.jobs.now c.args.end.job job c.index-jobs-t.result at) h) c.finish_job.ensures
