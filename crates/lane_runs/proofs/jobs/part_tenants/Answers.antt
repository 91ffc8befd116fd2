use Rattle.std.proofs.Common.{◌≡◌, ◌≤◌, map, length, arith, sym, ap, ◌∙◌}
use Rattle.std.proofs.lemmas.List.{length-map}
use Rattle.std.proofs.lemmas.Result.{IfOk-weaker}
use Rattle.chain_types.specs.View.{chain_view}
use Rattle.work_crew.specs.JobView.{job_view}
use Rattle.lane_runs.specs.Jobs.{jobs_of, unnumbered}
use Rattle.lane_runs.proofs.JobLists.{jobs_few}
use Rattle.lane_runs.proofs.jobs.part_tenants.Goals as goal

pub returns-clause-few : goal.returns-clause-few
returns-clause-few g c = IfOk-weaker c.new_jobs.result _ _ (λ jobs is.
    let all = jobs_of 0 (map chain_view c.args.chains.items) c.args.inputs.items in
    let many : length jobs.items ≡ length all = sym (length-map jobs.items job_view) ∙ ap length (is ∙ c.in_ok-list_tenants.ensures.captures) ∙ length-map all unnumbered in
    let few = jobs_few 0 (map chain_view c.args.chains.items) c.args.inputs.items in
    omega (arith, many, few, length-map c.args.chains.items chain_view)) c.new_jobs.ensures

pub returns-clause-jobs : goal.returns-clause-jobs
returns-clause-jobs g c = IfOk-weaker c.new_jobs.result _ _ (λ jobs is. is ∙ c.in_ok-list_tenants.ensures.captures) c.new_jobs.ensures
