use Rattle.std.proofs.Common.{◌≡◌, ◌+◌, All, length}
use Rattle.crossbeam_queue.specs.Passes.{ruled_capacity}
use Rattle.lane_queue.specs.Lists.{Each}
use Rattle.lane_queue.specs.Seats.{IsNewPass}
use Rattle.lane_queue.proofs.start.new_rings.Given as goal

abbrev pub invariant-loop-w : goal.invariant-loop-w
invariant-loop-w l = record {
  count : (length l.rings.items ≡ l.w) × (length l.passes.items ≡ l.w);
  places : All (λ q. ruled_capacity q ≡ l.buffers + 1) l.rings.items;
  new : Each (λ w q p. IsNewPass q p) l.rings.items l.passes.items;
}
