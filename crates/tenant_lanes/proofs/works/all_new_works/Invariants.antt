use Rattle.std.proofs.Common.{◌≡◌, length}
use Rattle.work_crew.specs.Crews.{AreNewWorks}
use Rattle.work_crew.specs.Members.{Members}
use Rattle.tenant_lanes.proofs.works.all_new_works.Given as goal

-- the first jobs have their works
abbrev pub invariant-each : goal.invariant-each
invariant-each g l = let w = g.W.ChainWork in record {
  count : length l.works.items ≡ l.job-index;
  works : Members (AreNewWorks w.follows w.ready w.stands w.ended w.broken l.workers) l.jobs l.works.items;
}
