use Rattle.std.proofs.Common.{◌≡◌, length}
use Rattle.work_crew.specs.Records.{is_big, numbers_where}
use Rattle.work_crew.specs.JobView.{job_view}
use Rattle.work_crew.proofs.done.count_big.Given as goal

-- so many of the records so far are Big
abbrev pub invariant-each : goal.invariant-each
invariant-each l = record {
  so_far : l.big ≡ length (numbers_where (is_big (job_view l.job)) l.k);
}
