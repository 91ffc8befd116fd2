use Rattle.std.proofs.Common.{◌≡◌, ℕ, ◌<◌, length}
use Rattle.std.specs.Prelude.{slice_index}
use Rattle.work_crew.specs.Records.{numbers_where, of_worker}
use Rattle.work_crew.specs.JobView.{job_view}
use Rattle.work_crew.proofs.starting.shares_of.Given as goal

-- so many of the records so far go to each worker
abbrev pub invariant-each : goal.invariant-each
invariant-each l = record {
  count : length l.shares ≡ 16;
  so_far : (w : ℕ) → w < l.workers → slice_index l.shares w ≡ length (numbers_where (of_worker (job_view l.job) l.workers w) l.k);
}
