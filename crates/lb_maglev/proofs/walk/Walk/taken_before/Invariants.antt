-- the places before are taken
use Rattle.lb_maglev.specs.Passed.{ArePassed}
use Rattle.lb_maglev.proofs.walk.Walk.taken_before.Given as goal

abbrev pub invariant-loop-j : goal.invariant-loop-j
invariant-loop-j l = ArePassed l.places l.self.offset l.self.skip l.j
