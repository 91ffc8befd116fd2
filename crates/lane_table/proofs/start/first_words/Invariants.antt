use Rattle.std.proofs.Common.{◌≡◌, ℕ, ◌<◌, ◌≤◌, length, get_or}
use Rattle.lane_table.proofs.start.first_words.Given as goal

abbrev pub invariant-loop-i : goal.invariant-loop-i
invariant-loop-i l = record {
  long : length l.words.items ≡ l.count;
  ones : (j : ℕ) → j < l.i → get_or l.words.items j 0 ≡ 1;
  zeros : (j : ℕ) → l.i ≤ j → get_or l.words.items j 0 ≡ 0;
}
