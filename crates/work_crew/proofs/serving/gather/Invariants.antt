use Rattle.std.proofs.Common.{◌≡◌, ◌≤◌, true, false, [], length}
use Rattle.work_crew.specs.JobView.{job_view}
use Rattle.work_crew.specs.Worked.{HasGathered}
use Rattle.work_crew.proofs.serving.gather.Given as goal

-- the batch has what was received so far
abbrev pub invariant-each : goal.invariant-each
invariant-each g l = record {
  own : g.K.LaneKit.is_worker_of l.lane l.seat;
  gathered : HasGathered (job_view l.job) (g.K.LaneKit.lane_facts l.lane).bytes (g.K.LaneKit.worker_facts l.fn.seat) (g.K.LaneKit.worker_facts l.seat) l.batch false;
  few : length l.batch ≤ l.done;
  given_back : (g.K.LaneKit.worker_facts l.seat).idle ≡ true → (g.K.LaneKit.worker_facts l.seat).held ≡ [];
}
