-- the turns so far, and how far the walks have come
use Rattle.std.proofs.Common.{◌≡◌}
use Rattle.brick_spec.specs.Balance.{turns}
use Rattle.lb_maglev.specs.Walks.{AreWalks}
use Rattle.lb_maglev.proofs.turns.take_turns.Given as goal

abbrev pub invariant-loop-k : goal.invariant-loop-k
invariant-loop-k l = record {
  places : l.places ≡ turns l.names l.k;
  walks : AreWalks l.places l.names l.walks;
}
