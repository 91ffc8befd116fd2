use Rattle.std.proofs.Common.{◌≡◌, ℕ, ◌<◌, ◌≤◌, true, false, length}
use Rattle.lane_table.specs.Rule.{mark_at}
use Rattle.lane_table.proofs.lane.TableLane.put_ends.Given as goal

abbrev pub invariant-loop-w : goal.invariant-loop-w
invariant-loop-w l = record {
  own : l.seat.table_id ≡ l.self.table.shared.table_id;
  view : l.seat.me ≡ (record l.fn.seat.me.0 { ends = l.seat.me.0.ends }, l.fn.seat.me.1);
  long : length l.seat.me.0.ends ≡ l.self.workers;
  put : (j : ℕ) → j < l.w → mark_at l.seat.me.0.ends j ≡ true;
  rest : (j : ℕ) → l.w ≤ j → j < l.self.workers → mark_at l.seat.me.0.ends j ≡ false;
}
