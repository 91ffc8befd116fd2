use Rattle.std.proofs.Common.{◌≡◌, ◌+◌, ◌++◌, length}
use Rattle.lane_core.specs.View.{pairs_in}
use Rattle.lane_queue.specs.Ends.{AreEndedFrom, HasJoined, logs_of}
use Rattle.lane_queue.proofs.lane.QueueLane.join_all.Given as goal

abbrev pub invariant-loop-done : goal.invariant-loop-done
invariant-loop-done l = record {
  left : length l.workers.items + l.done ≡ length l.fn.workers.items;
  ended : AreEndedFrom l.self l.done l.workers.items;
  logs : pairs_in l.seat.received.items ++ logs_of l.workers.items ≡ logs_of l.fn.workers.items;
  sent : l.seat.sent ≡ l.fn.seat.sent;
  held : l.seat.held ≡ l.fn.seat.held;
  missed : l.seat.missed ≡ l.fn.seat.missed;
  joined : HasJoined l.self l.done l.seat;
}
