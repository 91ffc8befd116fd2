-- The place is the first that is free, and passed.
use Rattle.std.proofs.Common.{arith, sym, ap, ◌∙◌, Some, slice_set}
use Rattle.brick_spec.specs.Balance.{with_taken}
use Rattle.lb_maglev.proofs.Searches.{first_at, first_none}
use Rattle.lb_maglev.proofs.walk.Walk.take_turn.Goals as goal

pub returns-then-self-lt-PLACES-clause-taken : goal.returns-then-self-lt-PLACES-clause-taken
returns-then-self-lt-PLACES-clause-taken c =
    ap (λ place. slice_set c.args.places.now place (Some c.args.backend)) c.place-place.ensures
    ∙ sym (ap (λ at. with_taken c.args.places.now at c.args.backend)
    (first_at c.args.places.now c.args.self.now.offset c.args.self.now.skip c.taken_before-self.result c.if-self-lt-PLACES.true c.taken_before-self.ensures.passed (c.taken_before-self.ensures.free c.if-self-lt-PLACES.true)))

pub returns-else-self-lt-PLACES-clause-taken : goal.returns-else-self-lt-PLACES-clause-taken
returns-else-self-lt-PLACES-clause-taken c =
    sym (ap (λ at. with_taken c.args.places.now at c.args.backend)
    (first_none c.args.places.now c.args.self.now.offset c.args.self.now.skip (λ j h. c.taken_before-self.ensures.passed j (omega arith))))
