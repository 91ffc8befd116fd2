-- The first place is the one that the loop stops at.
use Rattle.std.proofs.Common.{arith, sym, true, ◌≡◌}
use Rattle.std.proofs.lemmas.Grind.{common_steps}
use Rattle.brick_spec.specs.Balance.{is_free, preferred_place}
use Rattle.lb_maglev.proofs.Searches.{first_at, first_none}
use Rattle.lb_maglev.proofs.plain.first_free.Goals as goal

pub returns-then-is_none-clause-first : goal.returns-then-is_none-clause-first
returns-then-is_none-clause-first c =
    let free : is_free c.args.places.now (preferred_place c.args.offset c.args.skip c.loop-j.j) ≡ true = grind (arith, common_steps) in
    sym (first_at c.args.places.now c.args.offset c.args.skip c.loop-j.j c.loop-j-test.true c.loop-j.invariant free)

pub returns-clause-first : goal.returns-clause-first
returns-clause-first c = sym (first_none c.args.places.now c.args.offset c.args.skip (λ j h. c.loop-j.invariant j (omega arith)))
