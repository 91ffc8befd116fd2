use Rattle.std.proofs.Common.{◌≡◌, ℕ, ◌+◌, ◌<◌, ◌≤◌, min, slice_index}
use Rattle.work_parts.proofs.whole.add_counts.Given as goal

abbrev pub invariant-loop-k : goal.invariant-loop-k
invariant-loop-k l =
    ((j : ℕ) → j < l.k → slice_index l.counts j ≡ min 4294967295 (slice_index l.fn.counts j + slice_index l.more j))
    × ((j : ℕ) → l.k ≤ j → slice_index l.counts j ≡ slice_index l.fn.counts j)
