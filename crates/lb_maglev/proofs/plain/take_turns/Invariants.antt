-- the turns so far
use Rattle.std.proofs.Common.{◌≡◌}
use Rattle.brick_spec.specs.Balance.{turns}
use Rattle.lb_maglev.proofs.plain.take_turns.Given as goal

abbrev pub invariant-loop-k : goal.invariant-loop-k
invariant-loop-k l = l.places ≡ turns l.names l.k
