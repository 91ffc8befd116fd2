use Rattle.std.proofs.Common.{ap, ◌∙◌, arith}
use Rattle.brick_spec.specs.Checksum.{folded, sum_of_words}
use Rattle.brick_base.proofs.WordSums.{folded_four}
use Rattle.brick_base.proofs.sums.sum_under_eight.Goals as goal

pub returns-in-Some : goal.returns-in-Some
returns-in-Some c =
    let cut = c.in-Some.ensures.cases in
    let behind = c.sum_under_four.ensures.sum ∙ ap (λ r. folded (sum_of_words r)) cut.1 in
    folded_four c.args.bytes.now c.in-Some.four.now c.sum_under_four.result c.from_le_bytes.result (omega arith) cut.0 c.from_le_bytes.ensures behind
