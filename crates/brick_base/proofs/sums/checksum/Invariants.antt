use Rattle.std.proofs.Common.{◌≡◌, ◌+◌, ◌*◌, ◌≤◌, length}
use Rattle.brick_spec.specs.Checksum.{folded, sum_of_words}
use Rattle.brick_base.proofs.sums.checksum.Given as goal

-- the same as below
abbrev pub invariant-wide : goal.invariant-wide
invariant-wide l = record {
  summed : folded (l.sum * 256 + sum_of_words l.left) ≡ folded (sum_of_words l.bytes);
  room : l.sum + 2305843009213693952 * length l.left ≤ 2305843009213693952 * length l.bytes;
}

abbrev pub decreases-wide : goal.decreases-wide
decreases-wide l = length l.left

-- the sum so far, with the bytes of each word exchanged, and the words that are left make the whole sum; it grows by
-- less than 2 ^ 61 a byte
abbrev pub invariant-eights : goal.invariant-eights
invariant-eights l = record {
  summed : folded (l.sum * 256 + sum_of_words l.left) ≡ folded (sum_of_words l.bytes);
  room : l.sum + 2305843009213693952 * length l.left ≤ 2305843009213693952 * length l.bytes;
}

abbrev pub decreases-eights : goal.decreases-eights
decreases-eights l = length l.left
