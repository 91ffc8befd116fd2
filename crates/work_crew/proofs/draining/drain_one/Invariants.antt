use Rattle.std.proofs.Common.{◌≡◌, false, []}
use Rattle.work_crew.proofs.draining.drain_one.Given as goal

-- the worker holds nothing, and has not taken END
abbrev pub invariant-loop : goal.invariant-loop
invariant-loop g l = record {
  can : (goal.iterator-loop g).can_next l.iterator' × (goal.iterator-loop g).is_finite l.iterator';
  own : g.K.LaneKit.is_worker_of l.lane l.seat;
  held : (g.K.LaneKit.worker_facts l.seat).held ≡ [];
  going : (g.K.LaneKit.worker_facts l.seat).ended ≡ false;
  place : (g.K.LaneKit.worker_facts l.seat).place ≡ (g.K.LaneKit.worker_facts l.fn.seat).place;
}
