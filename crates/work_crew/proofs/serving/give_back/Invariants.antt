use Rattle.std.proofs.Common.{◌≡◌, ℕ, map, length}
use Rattle.std.specs.Prelude.{All}
use Rattle.packet_owner.specs.Buffer.{BufferModel}
use Rattle.lane_spec.specs.Counts.{times}
use Rattle.work_crew.proofs.serving.give_back.Given as goal

-- what is left in the list is what the seat still holds
abbrev pub invariant-each : goal.invariant-each
invariant-each g l = record {
  own : g.K.LaneKit.is_worker_of l.lane l.seat;
  slots : (i : ℕ) → times i (map (λ (b : BufferModel). b.slot) l.returned) ≡ times i (g.K.LaneKit.worker_facts l.seat).held;
  rooms : All (λ (b : BufferModel). b.room ≡ (g.K.LaneKit.lane_facts l.lane).bytes) l.returned;
  received : (g.K.LaneKit.worker_facts l.seat).received ≡ (g.K.LaneKit.worker_facts l.fn.seat).received;
  place : (g.K.LaneKit.worker_facts l.seat).place ≡ (g.K.LaneKit.worker_facts l.fn.seat).place;
  took_end : (g.K.LaneKit.worker_facts l.seat).ended ≡ (g.K.LaneKit.worker_facts l.fn.seat).ended;
}

abbrev pub decreases-each : goal.decreases-each
decreases-each g l = length l.returned
