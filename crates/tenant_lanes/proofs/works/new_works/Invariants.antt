use Rattle.std.proofs.Common.{◌≡◌, length}
use Rattle.tenant_spec.specs.ChainPlan.{plan_of}
use Rattle.work_crew.specs.JobView.{job_view}
use Rattle.work_crew.specs.Rows.{Each}
use Rattle.work_crew.specs.Worked.{IsNewWork}
use Rattle.tenant_lanes.proofs.works.new_works.Given as goal

-- so many works are new
abbrev pub invariant-each : goal.invariant-each
invariant-each g l = let w = g.W.ChainWork in record {
  count : length l.works.items ≡ l.w;
  follow : Each (λ x. w.follows x (plan_of (job_view l.job).chain)) l.works.items;
  new : Each (IsNewWork w.ready w.stands w.ended w.broken) l.works.items;
}
