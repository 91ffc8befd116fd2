use Rattle.std.proofs.Common.{◌∙◌, arith, length-set}
use Rattle.work_crew.specs.Records.{of_worker}
use Rattle.work_crew.specs.JobView.{job_view}
use Rattle.work_crew.proofs.Ingests.{where_most}
use Rattle.work_crew.proofs.Shares.{share_step}
use Rattle.work_crew.proofs.starting.shares_of.Goals as goal

pub overflow_add-shares : goal.overflow_add-shares
overflow_add-shares c =
    let e = c.each.invariant.so_far c.worker_for-w.result c.worker_for-w.ensures.below in
    let m = where_most (of_worker (job_view c.args.job.now) c.args.workers c.worker_for-w.result) c.each.k in
    let t = c.each-test.true in
    omega arith

pub each-preserved : goal.each-preserved
each-preserved c = record {
  count = length-set c.each.shares c.worker_for-w.result _ ∙ c.each.invariant.count;
  so_far = share_step (job_view c.args.job.now) c.args.workers c.each.k c.worker_for-w.result c.each.shares c.each.invariant.count c.requires.some.1 c.worker_for-w.ensures.worker c.worker_for-w.ensures.below c.each.invariant.so_far;
}
