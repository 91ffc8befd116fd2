-- a walk for each of the names so far
use Rattle.std.proofs.Common.{◌≡◌, length}
use Rattle.brick_spec.specs.Balance.{Places}
use Rattle.lb_maglev.specs.Walks.{AreWalks}
use Rattle.lb_maglev.proofs.turns.new_walks.Given as goal

abbrev pub invariant-loop-name : goal.invariant-loop-name
invariant-loop-name l = record {
  long : length l.walks.items ≡ l.name-index;
  walks : (places : Places) → AreWalks places l.names l.walks.items;
}
