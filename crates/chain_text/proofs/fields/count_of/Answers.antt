use Rattle.std.proofs.Common.{◌≡◌, ◌∙◌, sym, length, vec_len, arith}
use Rattle.chain_text.proofs.Arrays.{count_view}
use Rattle.chain_text.proofs.fields.count_of.Goals as goal

pub returns-clause-members : goal.returns-clause-members
returns-clause-members c =
    let array = c.args.array.now in
    let len : vec_len array ≡ length array.items = omega (arith, array.ok.0) in
    c.len.ensures ∙ len ∙ sym (count_view array.items)
