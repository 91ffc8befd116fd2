use Rattle.std.proofs.Common.{◌≡◌, ◌+◌, ◌++◌, ◌≤◌, length}
use Rattle.std.specs.Prelude.{vec_capacity}
use Rattle.lane_core.specs.View.{pairs_in}
use Rattle.lane_table.specs.Ends.{AreEndedFrom, HasJoined, logs_of}
use Rattle.lane_table.proofs.shut.join_all.Given as goal

abbrev pub invariant-loop-done : goal.invariant-loop-done
invariant-loop-done l = record {
  table : l.all.table_id ≡ l.table.shared.table_id;
  left : length l.workers.items + l.done ≡ length l.fn.workers.items;
  ended : AreEndedFrom l.table.shared.table_id l.done l.workers.items;
  logs : pairs_in l.received.items ++ logs_of l.workers.items ≡ logs_of l.fn.workers.items;
  room : length l.fn.workers.items ≤ vec_capacity l.received;
  joined : HasJoined (length l.fn.workers.items) l.done l.fn.all.me.0.sent (pairs_in l.received.items) l.all.me.0;
}
