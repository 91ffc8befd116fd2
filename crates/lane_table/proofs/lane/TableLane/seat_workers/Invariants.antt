use Rattle.std.proofs.Common.{◌≡◌, ◌+◌, ◌-◌, ◌++◌, ◌∷◌, [], length}
use Rattle.lane_table.specs.Hands.{with_roles}
use Rattle.lane_table.specs.Rule.{numbers_from, first_view}
use Rattle.lane_table.specs.Starts.{AreNewFrom}
use Rattle.lane_table.proofs.lane.TableLane.seat_workers.Given as goal

abbrev pub invariant-loop-place : goal.invariant-loop-place
invariant-loop-place l = record {
  table : l.first.table_id ≡ l.self.table.shared.table_id;
  view : l.first.me ≡ (with_roles (numbers_from (l.place + 1) (l.self.workers - l.place) ++ 0 ∷ []) (first_view l.self.table.shared.key), []);
  count : length l.seats.items ≡ l.place;
  seats : AreNewFrom l.self 0 l.seats.items;
}
