use Rattle.std.proofs.Common.{◌≡◌, ◌+◌, ◌++◌, ◌∷◌, [], List, map, length, arith, rules, sym, ap, ◌∙◌, subst}
use Rattle.std.proofs.lemmas.List.{length-append, length-map, map-append}
use Rattle.chain_spec.specs.ChainSet.{Chain}
use Rattle.chain_types.specs.View.{chain_view}
use Rattle.tenant_lanes.specs.Jobs.{job_of}
use Rattle.tenant_files.specs.declared.inputs.TenantInput.{TenantInput}
use Rattle.lane_runs.specs.declared.jobs.Tenant.{Tenant}
use Rattle.lane_runs.specs.Jobs.{AreTenants, jobs_of, own_job, part_of, unnumbered}
use Rattle.lane_runs.proofs.JobLists.{unnumbered_more, tenants_more}
use Rattle.lane_runs.proofs.jobs.+list_tenants.Goals as goal

pub returns-in_ok-push-clause-captures : goal.returns-in_ok-push-clause-captures
returns-in_ok-push-clause-captures t c =
    let set = c.pop.new.self.items in
    let inputs = c.pop-in-Some.new.self.items in
    let long : length (map chain_view set) ≡ length inputs = omega (arith, c.requires.count, ap length c.in-Some.ensures.items, ap length c.in-Some-pop.ensures.items, length-append set (c.in-Some.chain ∷ []), length-append inputs (c.in-Some-pop.input ∷ []), length-map set chain_view) in
    c.in_ok-part.ensures.captures ∙ ap (λ js. js ++ own_job 0 (chain_view c.in-Some.chain) c.in-Some-pop.input) c.in_ok-list_tenants.ensures.captures
    ∙ sym (unnumbered_more (map chain_view set) inputs (chain_view c.in-Some.chain) c.in-Some-pop.input long)
    ∙ ap (λ cs. map unnumbered (jobs_of 0 cs (inputs ++ c.in-Some-pop.input ∷ []))) (sym (ap (map chain_view) c.in-Some.ensures.items ∙ map-append chain_view set (c.in-Some.chain ∷ [])))
    ∙ ap (λ is. map unnumbered (jobs_of 0 (map chain_view c.args.chains.items) is)) (sym c.in-Some-pop.ensures.items)

pub returns-in_ok-push-clause-tenants : goal.returns-in_ok-push-clause-tenants
returns-in_ok-push-clause-tenants t c =
    let set = c.pop.new.self.items in
    let inputs = c.pop-in-Some.new.self.items in
    let before = c.list_tenants.new.captures.items in
    let many : length before ≡ 0 + length (jobs_of 0 (map chain_view set) inputs) =
    omega (arith, ap length c.in_ok-list_tenants.ensures.captures, length-map before job_of, length-map (jobs_of 0 (map chain_view set) inputs) unnumbered) in
    let w : Tenant = record { name = c.in_ok-name.name; part = c.in_ok-part.part } in
    subst (λ (ws : List Tenant). AreTenants 0 (map chain_view c.args.chains.items) c.args.inputs.items ws) (sym c.in_ok-push.ensures.items)
    (subst (λ (is : List TenantInput). AreTenants 0 (map chain_view c.args.chains.items) is (c.list_tenants.new.tenants.items ++ w ∷ [])) (sym c.in-Some-pop.ensures.items)
    (subst (λ (cs : List Chain). AreTenants 0 cs (inputs ++ c.in-Some-pop.input ∷ []) (c.list_tenants.new.tenants.items ++ w ∷ [])) (sym (ap (map chain_view) c.in-Some.ensures.items ∙ map-append chain_view set (c.in-Some.chain ∷ [])))
    (tenants_more 0 0 (map chain_view set) inputs c.list_tenants.new.tenants.items (chain_view c.in-Some.chain) c.in-Some-pop.input w c.in_ok-list_tenants.ensures.tenants (search rules)
    (c.in_ok-part.ensures.part ∙ ap (λ n. part_of n c.in-Some-pop.input) many))))
