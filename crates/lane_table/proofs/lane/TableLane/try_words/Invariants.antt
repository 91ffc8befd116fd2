use Rattle.std.proofs.Common.{◌≡◌, ℕ, ◌≤◌, []}
use Rattle.lane_table.specs.Tries.{looked_at, FoundTaken}
use Rattle.lane_table.proofs.lane.TableLane.try_words.Given as goal

-- the words before this one were found taken
abbrev pub invariant-loop-i : goal.invariant-loop-i
invariant-loop-i l = record {
  own : (l.seat.table_id ≡ l.fn.seat.table_id) × (l.seat.id ≡ l.fn.seat.id);
  view : l.seat.me ≡ (looked_at l.seat.me.0.found l.fn.seat.me.0, []);
  tried : FoundTaken l.from l.i l.fn.seat.me.0.claimed l.fn.seat.me.0.found l.seat.me.0.found;
  within : (l.from ≤ l.i) × (l.i ≤ l.to);
}
