use Rattle.std.proofs.Common.{◌≡◌, map, rules, subst, ◌∙◌, [], sym, List}
use Rattle.std.specs.Prelude.{IsTrue}
use Rattle.chain_types.specs.View.{chain_view}
use Rattle.run_spec.specs.Isolation.{none_refused}
use Rattle.run_spec.specs.Report as report
use Rattle.run_spec.specs.Seen.{held}
use Rattle.run_spec.specs.Tenants.{TenantsRan}
use Rattle.run_report.specs.View.{line_view}
use Rattle.tenant_files.specs.Inputs.{AreInputs}
use Rattle.tenant_files.specs.Run.{CanRun}
use Rattle.tenant_files.proofs.Steps.{ran_none, may_none, may_stay, may_after, captures_stay, list_is, mapped_is}
use Rattle.bricks_main.proofs.inline.run_set.Goals as goal

pub returns-in_err-inputs-clause-ran : goal.returns-in_err-inputs-clause-ran
returns-in_err-inputs-clause-ran g c =
    ran_none _ _ c.args.out.now none_refused (map chain_view c.args.chains.now) (held (g.S.Store.file c.args.store.now) (g.S.Store.faults c.args.store.now)) _ c.from_residual.ensures.0
    (λ tells. may_none c.args.out.now none_refused 0 (map chain_view c.args.chains.now) (g.S.Store.file c.args.store.now))

pub returns-in_err-lines-clause-ran : goal.returns-in_err-lines-clause-ran
returns-in_err-lines-clause-ran g c =
    ran_none _ _ c.args.out.now none_refused (map chain_view c.args.chains.now) (held (g.S.Store.file c.args.store.now) (g.S.Store.faults c.args.store.now)) _ c.from_residual-in_err-lines.ensures.0
    (λ tells. may_none c.args.out.now none_refused 0 (map chain_view c.args.chains.now) (g.S.Store.file c.args.store.now))

pub returns-in_err-read_tenants-clause-ran : goal.returns-in_err-read_tenants-clause-ran
returns-in_err-read_tenants-clause-ran g c =
    ran_none _ _ c.args.out.now none_refused (map chain_view c.args.chains.now) (held (g.S.Store.file c.args.store.now) (g.S.Store.faults c.args.store.now)) _ c.from_residual-in_err-read_tenants.ensures.0
    (λ tells. may_stay c.args.out.now none_refused 0 (map chain_view c.args.chains.now) (g.S.Store.file c.args.store.now) (g.S.Store.file c.read_tenants.new.store) (c.read_tenants.ensures.held tells))

pub returns-in_err-run_tenants-clause-ran : goal.returns-in_err-run_tenants-clause-ran
returns-in_err-run_tenants-clause-ran g c =
    let first = held (g.S.Store.file c.args.store.now) (g.S.Store.faults c.args.store.now) in
    let mid = held (g.S.Store.file c.read_tenants.new.store) (g.S.Store.faults c.read_tenants.new.store) in
    let read = c.in_ok-read_tenants.ensures.inputs in
    let is : read.0 ≡ c.deref.result.now = list_is c.in_ok-inputs.inputs.items _ _ (search rules) read.1 ∙ sym c.deref.ensures.value in
    let can : CanRun (IsTrue g.S.Store.tells) c.args.out.now 0 (map chain_view c.args.chains.now) first mid c.deref.result.now = record {
      read = subst (λ (l : List _). AreInputs (IsTrue g.S.Store.tells) 0 (map chain_view c.args.chains.now) first mid.faults l) is read.2;
      captures = λ tells. captures_stay first.files mid.files (map chain_view c.args.chains.now) (c.in_ok-read_tenants.ensures.held tells);
      later = c.in_ok-read_tenants.ensures.later;
      apart = c.requires.apart;
    } in
    ran_none _ _ c.args.out.now none_refused (map chain_view c.args.chains.now) first _ c.from_residual-in_err-run_tenants.ensures.0
    (λ tells. may_after c.args.out.now none_refused 0 (map chain_view c.args.chains.now) first.files mid.files (g.S.Store.file c.run_tenants.new.store) (c.in_ok-read_tenants.ensures.held tells) (c.in_err-run_tenants.ensures.may first can tells))

pub returns-clause-ran : goal.returns-clause-ran
returns-clause-ran g c =
    let first = held (g.S.Store.file c.args.store.now) (g.S.Store.faults c.args.store.now) in
    let mid = held (g.S.Store.file c.read_tenants.new.store) (g.S.Store.faults c.read_tenants.new.store) in
    let read = c.in_ok-read_tenants.ensures.inputs in
    let is : read.0 ≡ c.deref.result.now = list_is c.in_ok-inputs.inputs.items _ _ (search rules) read.1 ∙ sym c.deref.ensures.value in
    let can : CanRun (IsTrue g.S.Store.tells) c.args.out.now 0 (map chain_view c.args.chains.now) first mid c.deref.result.now = record {
      read = subst (λ (l : List _). AreInputs (IsTrue g.S.Store.tells) 0 (map chain_view c.args.chains.now) first mid.faults l) is read.2;
      captures = λ tells. captures_stay first.files mid.files (map chain_view c.args.chains.now) (c.in_ok-read_tenants.ensures.held tells);
      later = c.in_ok-read_tenants.ensures.later;
      apart = c.requires.apart;
    } in
    let told = c.in_ok-run_tenants.ensures.ran first can in (
      mid,
      c.in_ok-read_tenants.ensures.held,
      subst (λ (l : List report.Line). TenantsRan (IsTrue g.S.Store.tells) c.args.out.now first.faults none_refused 0 (map chain_view c.args.chains.now) mid
          (held (g.S.Store.file c.run_tenants.new.store) (g.S.Store.faults c.run_tenants.new.store)) l) (mapped_is line_view c.in_ok-lines.lines.items _ _ (search rules) told.1) told.2,
    )
