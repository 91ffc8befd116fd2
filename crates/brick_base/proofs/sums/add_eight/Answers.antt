use Rattle.std.proofs.Common.{◌+◌, ◌*◌, ap, ◌∙◌}
use Rattle.brick_spec.specs.Checksum.{folded, sum_of_words}
use Rattle.brick_base.proofs.WordSums.{folded_eight}
use Rattle.brick_base.proofs.sums.add_eight.Goals as goal

pub returns-clause-summed : goal.returns-clause-summed
returns-clause-summed c =
    let cut = c.in-Some.ensures.cases in
    let sum = c.args.sum + c.from_le_bytes.result in
    ap (λ r. folded (sum * 256 + sum_of_words r)) cut.1
    ∙ folded_eight c.args.bytes.now c.in-Some.eight.now c.args.sum c.from_le_bytes.result c.requires.long cut.0 c.from_le_bytes.ensures
