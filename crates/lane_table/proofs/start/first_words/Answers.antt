use Rattle.std.proofs.Common.{◌≡◌, ℕ, ◌+◌, ◌*◌, get_or, replicate, ap, ◌∙◌, rules, length, List, arith}
use Rattle.lane_table.proofs.Starts.{zeros_at}
use Rattle.std.proofs.lemmas.List.{length-replicate}
use Rattle.lane_table.proofs.start.first_words.Goals as goal

pub loop-i-init : goal.loop-i-init
loop-i-init c = let n : ℕ = c.args.buffers + c.args.workers * (c.args.buffers + 1) in let all : c.in_ok-words.words.items ≡ replicate n 0 = c.in_ok-words.ensures.items_if_clones_equal (search rules) in record {
  long = ap (λ (l : List ℕ). length l) all ∙ length-replicate n 0;
  ones = λ j lt. absurd (omega arith);
  zeros = λ j _. ap (λ (l : List ℕ). get_or l j 0) all ∙ zeros_at n j;
}
