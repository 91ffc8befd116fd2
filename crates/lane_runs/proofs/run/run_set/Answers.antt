use Rattle.std.proofs.Common.{◌≡◌, ◌≤◌, [], List, map, length, arith, refl, sym, ap, ◌∙◌, subst}
use Rattle.std.specs.Prelude.{IsTrue}
use Rattle.std.proofs.lemmas.List.{length-map}
use Rattle.chain_spec.specs.ChainSet.{Chain}
use Rattle.chain_types.specs.View.{chain_view}
use Rattle.run_spec.specs.Seen.{held}
use Rattle.run_report.specs.View.{line_view}
use Rattle.tenant_files.specs.Inputs.{AreInputs}
use Rattle.tenant_files.specs.Run.{CanRun}
use Rattle.tenant_files.specs.declared.inputs.TenantInput.{TenantInput}
use Rattle.tenant_files.proofs.Steps.{captures_stay, list_is}
use Rattle.work_crew.specs.JobView.{job_view}
use Rattle.work_core.specs.declared.job.TenantJob.{TenantJob}
use Rattle.lane_runs.specs.declared.jobs.Tenant.{Tenant}
use Rattle.lane_runs.specs.Jobs.{AreTenants, jobs_of, unnumbered}
use Rattle.lane_runs.specs.Ran.{JobsRan}
use Rattle.lane_runs.proofs.TenantSteps.{err_of}
use Rattle.lane_runs.proofs.Running.{inputs_long, set_none, set_failed, set_ran}
use Rattle.lane_runs.proofs.run.run_set.Goals as goal

pub returns-in_err-read_tenants-clause-ran : goal.returns-in_err-read_tenants-clause-ran
returns-in_err-read_tenants-clause-ran g c =
    set_none (IsTrue g.S.Store.tells) c.args.out.now c.args.workers (map chain_view c.args.chains.items) (held (g.S.Store.file c.args.store.now) (g.S.Store.faults c.args.store.now))
    (held (g.S.Store.file c.read_tenants.new.store) (g.S.Store.faults c.read_tenants.new.store)) _ _ _ c.from_residual.ensures.0 c.read_tenants.ensures.held refl

pub part_tenants-requires-clause-count : goal.part_tenants-requires-clause-count
part_tenants-requires-clause-count g c =
    let read = c.in_ok-read_tenants.ensures.inputs in
    let is : read.0 ≡ c.read_tenants.new.inputs.items = list_is c.new-inputs.result.items _ _ c.new-inputs.ensures.items read.1 in
    let long : length (map chain_view c.deref.result.now) ≡ length read.0 = inputs_long (IsTrue g.S.Store.tells) 0 (map chain_view c.deref.result.now) _ _ read.0 read.2 in
    omega (arith, long, length-map c.deref.result.now chain_view, ap length is, ap length c.deref.ensures.value)

pub returns-in_err-jobs-clause-ran : goal.returns-in_err-jobs-clause-ran
returns-in_err-jobs-clause-ran g c =
    set_none (IsTrue g.S.Store.tells) c.args.out.now c.args.workers (map chain_view c.args.chains.items) (held (g.S.Store.file c.args.store.now) (g.S.Store.faults c.args.store.now))
    (held (g.S.Store.file c.read_tenants.new.store) (g.S.Store.faults c.read_tenants.new.store)) _ _ _ c.from_residual-in_err-jobs.ensures.0 c.read_tenants.ensures.held refl

pub run_jobs-requires-clause-few : goal.run_jobs-requires-clause-few
run_jobs-requires-clause-few g c κs within = (
  omega (arith, ap length c.deref-2.ensures.value, c.in_ok-jobs.ensures.count, c.requires.few),
  omega (arith, ap length c.deref-3.ensures.value, c.in_ok-jobs.ensures.few, c.requires.few),
)

pub returns-in_err-run_jobs-clause-ran : goal.returns-in_err-run_jobs-clause-ran
returns-in_err-run_jobs-clause-ran g c =
    let set = map chain_view c.args.chains.items in
    let first = held (g.S.Store.file c.args.store.now) (g.S.Store.faults c.args.store.now) in
    let mid = held (g.S.Store.file c.read_tenants.new.store) (g.S.Store.faults c.read_tenants.new.store) in
    let inputs = c.read_tenants.new.inputs.items in
    let read = c.in_ok-read_tenants.ensures.inputs in
    let is : read.0 ≡ inputs = list_is c.new-inputs.result.items _ _ c.new-inputs.ensures.items read.1 in
    let can : CanRun (IsTrue g.S.Store.tells) c.args.out.now 0 set first mid inputs = record {
      read = subst (λ (l : List Chain). AreInputs (IsTrue g.S.Store.tells) 0 l first mid.faults inputs) (ap (map chain_view) c.deref.ensures.value)
          (subst (λ (l : List TenantInput). AreInputs (IsTrue g.S.Store.tells) 0 (map chain_view c.deref.result.now) first mid.faults l) is read.2);
      captures = λ tells. captures_stay first.files mid.files set (c.in_ok-read_tenants.ensures.held tells);
      later = c.in_ok-read_tenants.ensures.later;
      apart = c.requires.apart;
    } in
    let are = subst (λ (ws : List Tenant). AreTenants 0 set inputs ws) (sym c.deref-2.ensures.value) c.in_ok-jobs.ensures.tenants in
    let views = ap (map job_view) c.deref-3.ensures.value ∙ c.in_ok-jobs.ensures.jobs in
    set_failed (IsTrue g.S.Store.tells) c.args.out.now c.args.workers set first (held (g.S.Store.file c.run_jobs.new.store) (g.S.Store.faults c.run_jobs.new.store)) (g.K.LaneKit.books c.args.kit.now)
    (g.K.LaneKit.books c.run_jobs.new.kit) inputs mid can c.in_ok-read_tenants.ensures.held c.run_jobs.ensures.later (map line_view c.run_jobs.new.lines.items) c.run_jobs.result
    (c.run_jobs.ensures.ran first set inputs can are views) (err_of c.run_jobs.result _ c.in_err-run_jobs.was) _ c.from_residual-in_err-run_jobs.ensures.0

pub returns-clause-ran : goal.returns-clause-ran
returns-clause-ran g c =
    let set = map chain_view c.args.chains.items in
    let first = held (g.S.Store.file c.args.store.now) (g.S.Store.faults c.args.store.now) in
    let mid = held (g.S.Store.file c.read_tenants.new.store) (g.S.Store.faults c.read_tenants.new.store) in
    let inputs = c.read_tenants.new.inputs.items in
    let read = c.in_ok-read_tenants.ensures.inputs in
    let is : read.0 ≡ inputs = list_is c.new-inputs.result.items _ _ c.new-inputs.ensures.items read.1 in
    let can : CanRun (IsTrue g.S.Store.tells) c.args.out.now 0 set first mid inputs = record {
      read = subst (λ (l : List Chain). AreInputs (IsTrue g.S.Store.tells) 0 l first mid.faults inputs) (ap (map chain_view) c.deref.ensures.value)
          (subst (λ (l : List TenantInput). AreInputs (IsTrue g.S.Store.tells) 0 (map chain_view c.deref.result.now) first mid.faults l) is read.2);
      captures = λ tells. captures_stay first.files mid.files set (c.in_ok-read_tenants.ensures.held tells);
      later = c.in_ok-read_tenants.ensures.later;
      apart = c.requires.apart;
    } in
    let are = subst (λ (ws : List Tenant). AreTenants 0 set inputs ws) (sym c.deref-2.ensures.value) c.in_ok-jobs.ensures.tenants in
    let views = ap (map job_view) c.deref-3.ensures.value ∙ c.in_ok-jobs.ensures.jobs in
    set_ran (IsTrue g.S.Store.tells) c.args.out.now c.args.workers set first (held (g.S.Store.file c.run_jobs.new.store) (g.S.Store.faults c.run_jobs.new.store)) (g.K.LaneKit.books c.args.kit.now)
    (g.K.LaneKit.books c.run_jobs.new.kit) inputs mid can c.in_ok-read_tenants.ensures.held c.run_jobs.ensures.later (map line_view c.run_jobs.new.lines.items)
    (subst (JobsRan (IsTrue g.S.Store.tells) c.args.out.now c.args.workers set inputs first mid (held (g.S.Store.file c.run_jobs.new.store) (g.S.Store.faults c.run_jobs.new.store)) (g.K.LaneKit.books c.args.kit.now)
    (g.K.LaneKit.books c.run_jobs.new.kit) (map line_view c.run_jobs.new.lines.items)) c.in_ok-run_jobs.was (c.run_jobs.ensures.ran first set inputs can are views)) c.run_jobs.new.lines refl
