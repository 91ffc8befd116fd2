use Rattle.std.proofs.Common.{◌≡◌, [], List, map, sym, ap, ◌∙◌, subst, inl, inr, refl}
use Rattle.std.specs.Prelude.{IsTrue}
use Rattle.run_spec.specs.Books.{refused_by}
use Rattle.run_spec.specs.Report.{Line}
use Rattle.run_spec.specs.Seen.{held}
use Rattle.run_report.specs.View.{line_view}
use Rattle.work_core.specs.declared.job.TenantDone.{TenantDone}
use Rattle.work_crew.specs.JobView.{job_view}
use Rattle.tenant_lanes.specs.Dones.{AllMade}
use Rattle.lane_runs.specs.Jobs.{jobs_of}
use Rattle.lane_runs.specs.Writing.{WroteAll}
use Rattle.lane_runs.proofs.Ready.{ready_done}
use Rattle.lane_runs.proofs.Running.{part_books, whole_books, made_ready, adds_parts}
use Rattle.lane_runs.proofs.run.run_jobs.Goals as goal

pub returns-in_err-done-clause-ran : goal.returns-in_err-done-clause-ran
returns-in_err-done-clause-ran g c = λ first set inputs can are views.
    let bs = c.in_err-done.ensures.no_memory in
    record {
      added = bs.0;
      adds = record { after = bs.1; parts = part_books c.args.workers (map job_view c.args.jobs.now) (jobs_of 0 set inputs) bs.0 views bs.2 };
      ran = inl (c.from_residual.ensures.0, refl);
    }

pub write_tenants-requires-clause-done : goal.write_tenants-requires-clause-done
write_tenants-requires-clause-done g c =
    let (set, inputs, are, views) = c.requires.tenants in
    let bs = c.in_ok-done.ensures.done in
    ready_done c.args.jobs.now c.deref.result.now (refused_by (jobs_of 0 set inputs) bs.0) 0 set inputs c.args.tenants.now
    (made_ready c.args.jobs.now c.deref.result.now c.args.workers set inputs c.args.tenants.now bs.0 are views bs.2 (subst (λ (ds : List TenantDone). AllMade (map job_view c.args.jobs.now) bs.0 ds) (sym c.deref.ensures.value) bs.3))

pub returns-clause-ran : goal.returns-clause-ran
returns-clause-ran g c = λ first set inputs can are views.
    let bs = c.in_ok-done.ensures.done in
    let whole = whole_books c.args.workers (map job_view c.args.jobs.now) (jobs_of 0 set inputs) bs.0 views bs.2 in
    let ready = made_ready c.args.jobs.now c.deref.result.now c.args.workers set inputs c.args.tenants.now bs.0 are views bs.2 (subst (λ (ds : List TenantDone). AllMade (map job_view c.args.jobs.now) bs.0 ds) (sym c.deref.ensures.value) bs.3) in
    record {
      added = bs.0;
      adds = adds_parts c.args.workers (jobs_of 0 set inputs) _ _ bs.0 bs.1 whole;
      ran = inr (
        whole,
        subst (λ (old : List Line). WroteAll (IsTrue g.S.Store.tells) c.args.out.now 0 (refused_by (jobs_of 0 set inputs) bs.0) set inputs first.faults
            (held (g.S.Store.file c.args.store.now) (g.S.Store.faults c.args.store.now)) (held (g.S.Store.file c.write_tenants.new.store) (g.S.Store.faults c.write_tenants.new.store)) old
            (map line_view c.write_tenants.new.lines.items) c.write_tenants.result) (ap (map line_view) c.requires.no_lines)
            (c.write_tenants.ensures.wrote first set inputs (refused_by (jobs_of 0 set inputs) bs.0) (record { can = can; ready = ready })),
      );
    }
