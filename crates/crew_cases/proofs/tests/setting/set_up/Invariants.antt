use Rattle.work_crew.specs.Crews.{AreNewWorks}
use Rattle.work_crew.specs.Members.{Across}
use Rattle.crew_cases.proofs.tests.setting.set_up.Given as goal

-- each job has its works
abbrev pub invariant-each : goal.invariant-each
invariant-each g l = let w = g.W.ChainWork in Across (AreNewWorks w.follows w.ready w.stands w.ended w.broken l.workers) l.jobs.items l.works.items
