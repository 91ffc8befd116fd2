use Rattle.std.proofs.Common.{◌≡◌}
use Rattle.work_crew.proofs.sending.claim_one.Given as goal

-- what the seat holds and has sent is as before
abbrev pub invariant-loop : goal.invariant-loop
invariant-loop g l = record {
  can : (goal.iterator-loop g).can_next l.iterator' × (goal.iterator-loop g).is_finite l.iterator';
  own : g.K.LaneKit.is_ingest_of l.lane l.seat;
  held : (g.K.LaneKit.ingest_facts l.seat).held ≡ (g.K.LaneKit.ingest_facts l.fn.seat).held;
  sent : (g.K.LaneKit.ingest_facts l.seat).sent ≡ (g.K.LaneKit.ingest_facts l.fn.seat).sent;
  finished : (g.K.LaneKit.ingest_facts l.seat).finished ≡ (g.K.LaneKit.ingest_facts l.fn.seat).finished;
}
