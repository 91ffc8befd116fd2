use Rattle.work_crew.specs.Crews.{AreNewWorks}
use Rattle.crew_cases.proofs.tests.setting.works_of.Given as goal

-- so many works are there
abbrev pub invariant-each : goal.invariant-each
invariant-each g l = let w = g.W.ChainWork in AreNewWorks w.follows w.ready w.stands w.ended w.broken l.done l.job l.works
