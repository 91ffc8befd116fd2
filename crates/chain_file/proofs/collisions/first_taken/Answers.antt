use Rattle.std.proofs.Common.{◌≡◌, ◌∷◌, true, false, is_some, arith}
use Rattle.std.proofs.lemmas.Grind.{common_steps}
use Rattle.chain_file.specs.View.{chain_captures}
use Rattle.chain_file.proofs.Names.{found_here, found_later}
use Rattle.chain_file.proofs.collisions.first_taken.Goals as goal

pub returns-then-is_some : goal.returns-then-is_some
returns-then-is_some c =
    let here : is_some c.in_ok-taken.taken ≡ true = grind (arith, common_steps) in
    found_here (c.args.own.now ∷ chain_captures c.args.chains.now) c.args.out.now c.args.chains.now c.loop-chain.chain-index c.chain-item.result c.in_ok-taken.taken _
    c.loop-chain-test.true c.chain-item.is c.loop-chain.invariant c.in_ok-taken.ensures here

pub loop-chain-preserved : goal.loop-chain-preserved
loop-chain-preserved c =
    let here : is_some c.in_ok-taken.taken ≡ false = grind (arith, common_steps) in
    found_later (c.args.own.now ∷ chain_captures c.args.chains.now) c.args.out.now c.args.chains.now c.loop-chain.chain-index c.chain-item.result c.in_ok-taken.taken _
    c.loop-chain-test.true c.chain-item.is c.loop-chain.invariant c.in_ok-taken.ensures here
