use Rattle.std.proofs.Common.{◌≡◌, true, length}
use Rattle.lane_core.specs.View.{pairs_in}
use Rattle.lane_core.specs.Seats.{log_of}
use Rattle.lane_queue.specs.Lists.{Each}
use Rattle.lane_queue.specs.Seats.{lane_of, IsAmong, IsSender}
use Rattle.lane_queue.proofs.kit.QueueKitLaneKit.finish.Given as goal

-- the rings of the first w workers have END, and nothing else changed
abbrev pub invariant-loop-w : goal.invariant-loop-w
invariant-loop-w g l = record {
  pass : l.seat.pass ≡ l.fn.seat.pass;
  sent : l.seat.sent ≡ l.fn.seat.sent;
  held : l.seat.held ≡ l.fn.seat.held;
  missed : l.seat.missed ≡ l.fn.seat.missed;
  finds : l.seat.finds ≡ l.fn.seat.finds;
  home : l.seat.home ≡ l.fn.seat.home;
  received : l.seat.received ≡ l.fn.seat.received;
  long : length l.seat.rings.items ≡ length l.lane.rings.items;
  among : Each (λ k q p. IsAmong l.w k (IsSender (lane_of l.lane) k (log_of (pairs_in l.fn.seat.sent.items) k) true q p) (IsSender (lane_of l.lane) k (log_of (pairs_in l.fn.seat.sent.items) k) l.fn.seat.finished q p)) l.lane.rings.items l.seat.rings.items;
}
