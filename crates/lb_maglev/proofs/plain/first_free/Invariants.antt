-- the places before are taken
use Rattle.lb_maglev.specs.Passed.{ArePassed}
use Rattle.lb_maglev.proofs.plain.first_free.Given as goal

abbrev pub invariant-loop-j : goal.invariant-loop-j
invariant-loop-j l = ArePassed l.places l.offset l.skip l.j
