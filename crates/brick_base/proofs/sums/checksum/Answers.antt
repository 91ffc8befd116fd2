use Rattle.std.proofs.Common.{◌≡◌, ◌+◌, ◌*◌, ◌-◌, ap, ◌∙◌, arith}
use Rattle.brick_spec.specs.Checksum.{folded, sum_of_words}
use Rattle.std.specs.Int.{w16, swap_bytes}
use Rattle.brick_base.proofs.WordSums.{folded_eight, folded_exchanged, folded_same}
use Rattle.brick_base.proofs.sums.checksum.Goals as goal

pub eights-preserved : goal.eights-preserved
eights-preserved c =
    let cut = c.in-Some.ensures.cases in
    let sum = c.eights.sum + c.from_le_bytes.result in
    record {
      summed = ap (λ r. folded (sum * 256 + sum_of_words r)) cut.1
          ∙ (folded_eight c.eights.left.now c.in-Some.eight.now c.eights.sum c.from_le_bytes.result (omega arith) cut.0 c.from_le_bytes.ensures ∙ c.eights.invariant.summed);
      room = omega arith;
    }

pub returns : goal.returns
returns c =
    let sum = c.eights.sum in
    let last = c.sum_under_eight.result in
    let parts : (sum + last) * 256 ≡ sum * 256 + last * 256 = omega arith in
    let whole = ap folded parts ∙ (folded_same (sum * 256) (last * 256) _ c.sum_under_eight.ensures ∙ c.eights.invariant.summed) in
    ap (λ n. 65535 - n) (c.swap_bytes.ensures ∙ (ap (swap_bytes w16) c.fold.ensures ∙ (folded_exchanged (sum + last) ∙ whole)))
