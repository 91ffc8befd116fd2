use Rattle.std.proofs.Common.{◌≡◌, ◌-◌, [], false, length}
use Rattle.crossbeam_queue.specs.Passes.{view, IsPassOf}
use Rattle.lane_queue.specs.PoolRule.{filled_view}
use Rattle.lane_queue.specs.Lists.{Each}
use Rattle.lane_queue.specs.Seats.{lane_of, IsAmong, IsNewPass, IsSender}
use Rattle.lane_queue.specs.Starts.{AreNewWorkers}
use Rattle.lane_queue.proofs.lane.QueueLane.seat_workers.Given as goal

-- the first w workers have their seats
abbrev pub invariant-loop-w : goal.invariant-loop-w
invariant-loop-w l = record {
  pool : IsPassOf l.self.pool l.first;
  filled : view l.first ≡ filled_view (1024 - l.w) l.self.bytes l.self.buffers;
  long : length l.passes.items ≡ length l.self.shares.items;
  among : Each (λ k q p. IsAmong l.w k (IsSender (lane_of l.self) k [] false q p) (IsNewPass q p)) l.self.rings.items l.passes.items;
  count : length l.workers.items ≡ l.w;
  seats : AreNewWorkers l.self l.workers.items;
}
