use Rattle.std.proofs.Common.{◌≡◌, ◌∷◌, ◌++◌, List, map, rules, ap, ◌∙◌, ◌+◌, add-one}
use Rattle.std.specs.Prelude.{IsTrue}
use Rattle.chain_types.specs.View.{chain_view}
use Rattle.run_spec.specs.Isolation.{none_refused}
use Rattle.run_spec.specs.Seen.{held}
use Rattle.run_spec.specs.Tenants.{TenantsMay}
use Rattle.run_report.specs.View.{line_view, end_view}
use Rattle.tenant_files.proofs.Made.{more_behind}
use Rattle.tenant_files.proofs.Steps.{on_err, may_none, failed_first, stopped_behind, can_behind, failed_behind, ran_all, same_line}
use Rattle.bricks_main.proofs.inline.+run_tenants.Goals as goal

pub returns-in_err-name-clause-may : goal.returns-in_err-name-clause-may
returns-in_err-name-clause-may g t c = λ first can.
    let may : IsTrue g.S.Store.tells → TenantsMay c.args.out.now none_refused c.args.tenant (map chain_view c.args.chains.now) (g.S.Store.file c.args.store.now) (g.S.Store.file c.args.store.now) =
    λ tells. may_none c.args.out.now none_refused c.args.tenant (map chain_view c.args.chains.now) (g.S.Store.file c.args.store.now) in
    on_err _ _ may

pub returns-in_err-end-clause-may : goal.returns-in_err-end-clause-may
returns-in_err-end-clause-may g t c = λ first can.
    let chains : c.args.chains.now ≡ c.in-Some.chain.now ∷ c.in-Some.more_chains.now = search rules in
    let inputs : c.args.inputs.now ≡ c.in-Some-split_first.input.now ∷ c.in-Some-split_first.more_inputs.now = search rules in
    on_err _ _ (failed_first (IsTrue g.S.Store.tells) c.args.out.now none_refused c.args.tenant (map chain_view c.args.chains.now) (chain_view c.in-Some.chain.now) (map chain_view c.in-Some.more_chains.now) c.args.inputs.now
    c.in-Some-split_first.input.now c.in-Some-split_first.more_inputs.now (ap (map chain_view) chains) inputs first (held (g.S.Store.file c.args.store.now) (g.S.Store.faults c.args.store.now)) can
    (held (g.S.Store.file c.run_tenant.new.store) (g.S.Store.faults c.run_tenant.new.store)) _ c.in_err-end.ensures.ran)

pub returns-in_err-push-clause-may : goal.returns-in_err-push-clause-may
returns-in_err-push-clause-may g t c = λ first can.
    let chains : c.args.chains.now ≡ c.in-Some.chain.now ∷ c.in-Some.more_chains.now = search rules in
    let inputs : c.args.inputs.now ≡ c.in-Some-split_first.input.now ∷ c.in-Some-split_first.more_inputs.now = search rules in
    on_err _ _ (stopped_behind (IsTrue g.S.Store.tells) c.args.out.now none_refused c.args.tenant (map chain_view c.args.chains.now) (chain_view c.in-Some.chain.now) (map chain_view c.in-Some.more_chains.now) c.args.inputs.now
    c.in-Some-split_first.input.now c.in-Some-split_first.more_inputs.now (ap (map chain_view) chains) inputs first (held (g.S.Store.file c.args.store.now) (g.S.Store.faults c.args.store.now)) can
    (held (g.S.Store.file c.run_tenant.new.store) (g.S.Store.faults c.run_tenant.new.store)) c.in_ok-end.end c.in_ok-end.ensures.later c.in_ok-end.ensures.ran)

pub returns-in_err-run_tenants-clause-may : goal.returns-in_err-run_tenants-clause-may
returns-in_err-run_tenants-clause-may g t c = λ first can.
    let chains : c.args.chains.now ≡ c.in-Some.chain.now ∷ c.in-Some.more_chains.now = search rules in
    let inputs : c.args.inputs.now ≡ c.in-Some-split_first.input.now ∷ c.in-Some-split_first.more_inputs.now = search rules in
    let behind = can_behind (IsTrue g.S.Store.tells) c.args.out.now none_refused c.args.tenant (map chain_view c.args.chains.now) (chain_view c.in-Some.chain.now) (map chain_view c.in-Some.more_chains.now) c.args.inputs.now
    c.in-Some-split_first.input.now c.in-Some-split_first.more_inputs.now (ap (map chain_view) chains) inputs first (held (g.S.Store.file c.args.store.now) (g.S.Store.faults c.args.store.now)) can
    (held (g.S.Store.file c.run_tenant.new.store) (g.S.Store.faults c.run_tenant.new.store)) c.in_ok-end.end c.in_ok-end.ensures.later c.in_ok-end.ensures.ran (c.args.tenant + 1) (add-one c.args.tenant) in
    on_err _ _ (failed_behind (IsTrue g.S.Store.tells) c.args.out.now none_refused c.args.tenant (map chain_view c.args.chains.now) (chain_view c.in-Some.chain.now) (map chain_view c.in-Some.more_chains.now) c.args.inputs.now
    c.in-Some-split_first.input.now c.in-Some-split_first.more_inputs.now (ap (map chain_view) chains) inputs first (held (g.S.Store.file c.args.store.now) (g.S.Store.faults c.args.store.now)) can
    (held (g.S.Store.file c.run_tenant.new.store) (g.S.Store.faults c.run_tenant.new.store)) c.in_ok-end.end c.in_ok-end.ensures.later c.in_ok-end.ensures.ran (c.args.tenant + 1) (g.S.Store.file c.run_tenants.new.store) (add-one c.args.tenant)
    (c.in_err-run_tenants.ensures.may first behind))

pub returns-clause-ran : goal.returns-clause-ran
returns-clause-ran g t c = λ first can.
    let chains : c.args.chains.now ≡ c.in-Some.chain.now ∷ c.in-Some.more_chains.now = search rules in
    let inputs : c.args.inputs.now ≡ c.in-Some-split_first.input.now ∷ c.in-Some-split_first.more_inputs.now = search rules in
    let behind = can_behind (IsTrue g.S.Store.tells) c.args.out.now none_refused c.args.tenant (map chain_view c.args.chains.now) (chain_view c.in-Some.chain.now) (map chain_view c.in-Some.more_chains.now) c.args.inputs.now
    c.in-Some-split_first.input.now c.in-Some-split_first.more_inputs.now (ap (map chain_view) chains) inputs first (held (g.S.Store.file c.args.store.now) (g.S.Store.faults c.args.store.now)) can
    (held (g.S.Store.file c.run_tenant.new.store) (g.S.Store.faults c.run_tenant.new.store)) c.in_ok-end.end c.in_ok-end.ensures.later c.in_ok-end.ensures.ran (c.args.tenant + 1) (add-one c.args.tenant) in
    let told = c.in_ok-run_tenants.ensures.ran first behind in (
      record { name = c.in-Some.chain.now.name; end = end_view c.in_ok-end.end } ∷ told.0,
      more_behind line_view _ _ _ _ _ (told.1 ∙ ap (λ l. map line_view l ++ told.0) c.in_ok-push.ensures.items) (same_line _ _ (end_view c.in_ok-end.end) (search rules)),
      ran_all (IsTrue g.S.Store.tells) c.args.out.now none_refused c.args.tenant (map chain_view c.args.chains.now) (chain_view c.in-Some.chain.now) (map chain_view c.in-Some.more_chains.now) c.args.inputs.now
          c.in-Some-split_first.input.now c.in-Some-split_first.more_inputs.now (ap (map chain_view) chains) inputs first (held (g.S.Store.file c.args.store.now) (g.S.Store.faults c.args.store.now)) can
          (held (g.S.Store.file c.run_tenant.new.store) (g.S.Store.faults c.run_tenant.new.store)) c.in_ok-end.end c.in_ok-end.ensures.later c.in_ok-end.ensures.ran (c.args.tenant + 1)
          (held (g.S.Store.file c.run_tenants.new.store) (g.S.Store.faults c.run_tenants.new.store)) told.0 (add-one c.args.tenant) told.2,
    )
