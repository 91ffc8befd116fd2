use Rattle.std.proofs.Common.{◌≡◌, ℕ, ◌<◌, ◌≤◌, [], length, get_or, replicate}
use Rattle.lane_core.specs.View.{pairs_in}
use Rattle.lane_queue.specs.Lists.{rooms_in}
use Rattle.lane_queue.proofs.start.empty_logs.Given as goal

abbrev pub invariant-loop-w : goal.invariant-loop-w
invariant-loop-w l = record {
  count : length l.logs.items ≡ l.w;
  empty : pairs_in l.logs.items ≡ replicate l.w [];
  rooms : (j : ℕ) → j < l.w → get_or l.shares j 0 ≤ get_or (rooms_in l.logs.items) j 0;
}
