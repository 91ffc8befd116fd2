use Rattle.std.proofs.Common.{map, ◌++◌, ap, ◌∙◌}
use Rattle.std.specs.Prelude.{Ok}
use Rattle.work_crew.specs.JobView.{job_view}
use Rattle.tenant_lanes.specs.Jobs.{job_of}
use Rattle.tenant_lanes.proofs.Jobs.{all_alike}
use Rattle.tenant_lanes.proofs.job.new_jobs.Goals as goal

pub returns : goal.returns
returns g c =
    all_alike job_of job_view c.args.tenants.items c.in_ok-outcomes.outcomes.items c.push_values.new.values.items c.in_ok-outcomes.ensures.count c.in_ok-outcomes.ensures.made
    (c.in_ok-push_values.ensures ∙ ap (λ l. map Ok l ++ c.in_ok-outcomes.outcomes.items) c.new-jobs.ensures.items)
