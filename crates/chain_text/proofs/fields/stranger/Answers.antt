use Rattle.std.proofs.Common.{◌≡◌, ◌∙◌, [], refl, sym, arith, map, None, Option, option_map, ap}
use Rattle.std.proofs.lemmas.Grind.{common_steps}
use Rattle.std.specs.Option.{option_or}
use Rattle.chain_spec.specs.Fields.{Text}
use Rattle.chain_text.proofs.Least.{first, first_is_least}
use Rattle.brick_spec.proofs.Tests.{option_or-none}
use Rattle.chain_text.proofs.fields.stranger.Goals as goal

pub returns : goal.returns
returns c =
    let row = map (λ r. r.now) c.args.row.now in
    let found : Option Text = option_map (λ k. k.now) c.members.least in
    let iter : c.members.key-iterator ≡ [] = grind (arith, common_steps) in
    let none : first row c.members.key-iterator ≡ None = rw iter refl in
    sym (option_or-none found) ∙ ap (option_or found) (sym none) ∙ c.members.invariant.2 ∙ sym (first_is_least row c.args.table.now.entries c.iter-key-items.ensures.ordered)
