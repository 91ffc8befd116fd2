use Rattle.std.proofs.Common.{◌≡◌, ◌∷◌, [], List, map, length, rules, ap, ◌∙◌, ◌+◌, add-one, arith, refl, sym, subst, inl, inr}
use Rattle.std.specs.Prelude.{IsTrue}
use Rattle.std.proofs.lemmas.List.{map-append}
use Rattle.run_spec.specs.Seen.{held}
use Rattle.run_report.specs.View.{line_view}
use Rattle.lane_runs.specs.declared.jobs.Tenant.{Tenant}
use Rattle.lane_runs.specs.Writing.{CanWrite}
use Rattle.lane_runs.proofs.TenantSteps.{all_written, none_written, first_failed, first_alone, all_more, err_of}
use Rattle.lane_runs.proofs.writing.+write_tenants.Goals as goal

nothing : {A : Type 0} (xs : List A) → length xs ≡ 0 → xs ≡ []
nothing [] e = refl
nothing (x ∷ xs) e = absurd (omega arith)

pub returns-in_default-clause-wrote : goal.returns-in_default-clause-wrote
returns-in_default-clause-wrote g t c = λ first set inputs refused can.
    let none : c.args.tenants.now ≡ [] = nothing c.args.tenants.now c.in_default.ensures.cases in
    all_written (IsTrue g.S.Store.tells) c.args.out.now refused first c.args.jobs.now c.args.done.now (map line_view c.args.lines.now.items) c.args.tenant set inputs
    (held (g.S.Store.file c.args.store.now) (g.S.Store.faults c.args.store.now))
    (subst (λ (ws : List Tenant). CanWrite (IsTrue g.S.Store.tells) c.args.out.now c.args.tenant refused set inputs first (held (g.S.Store.file c.args.store.now) (g.S.Store.faults c.args.store.now)) c.args.jobs.now c.args.done.now ws) none can)

pub returns-in_err-name-clause-wrote : goal.returns-in_err-name-clause-wrote
returns-in_err-name-clause-wrote g t c = λ first set inputs refused can.
    none_written (IsTrue g.S.Store.tells) c.args.out.now refused first c.args.jobs.now c.args.done.now (map line_view c.args.lines.now.items) c.args.tenant set inputs
    (held (g.S.Store.file c.args.store.now) (g.S.Store.faults c.args.store.now)) _ _ c.from_residual.ensures.0

pub returns-in_err-end-clause-wrote : goal.returns-in_err-end-clause-wrote
returns-in_err-end-clause-wrote g t c = λ first set inputs refused can.
    let is : c.args.tenants.now ≡ c.in-Some.first.now ∷ c.in-Some.more.now = search rules in
    first_failed (IsTrue g.S.Store.tells) c.args.out.now refused first c.args.jobs.now c.args.done.now (map line_view c.args.lines.now.items) c.in-Some.first.now c.in-Some.more.now
    (held (g.S.Store.file c.args.store.now) (g.S.Store.faults c.args.store.now)) (held (g.S.Store.file c.write_tenant.new.store) (g.S.Store.faults c.write_tenant.new.store)) c.args.tenant set inputs
    (subst (λ (ws : List Tenant). CanWrite (IsTrue g.S.Store.tells) c.args.out.now c.args.tenant refused set inputs first (held (g.S.Store.file c.args.store.now) (g.S.Store.faults c.args.store.now)) c.args.jobs.now c.args.done.now ws) is can)
    _ c.in_err-end.ensures.ran _ _ c.from_residual-in_err-end.ensures.0

pub returns-in_err-push-clause-wrote : goal.returns-in_err-push-clause-wrote
returns-in_err-push-clause-wrote g t c = λ first set inputs refused can.
    let is : c.args.tenants.now ≡ c.in-Some.first.now ∷ c.in-Some.more.now = search rules in
    first_alone (IsTrue g.S.Store.tells) c.args.out.now refused first c.args.jobs.now c.args.done.now (map line_view c.args.lines.now.items) c.in-Some.first.now c.in-Some.more.now
    (held (g.S.Store.file c.args.store.now) (g.S.Store.faults c.args.store.now)) (held (g.S.Store.file c.write_tenant.new.store) (g.S.Store.faults c.write_tenant.new.store)) c.in_ok-end.end c.in_ok-end.ensures.later c.args.tenant set inputs
    (subst (λ (ws : List Tenant). CanWrite (IsTrue g.S.Store.tells) c.args.out.now c.args.tenant refused set inputs first (held (g.S.Store.file c.args.store.now) (g.S.Store.faults c.args.store.now)) c.args.jobs.now c.args.done.now ws) is can)
    c.in_ok-end.ensures.ran _ _ c.from_residual-in_err-push.ensures.0

pub returns-in_err-write_tenants-clause-wrote : goal.returns-in_err-write_tenants-clause-wrote
returns-in_err-write_tenants-clause-wrote g t c = λ first set inputs refused can.
    let is : c.args.tenants.now ≡ c.in-Some.first.now ∷ c.in-Some.more.now = search rules in
    let put = ap (map line_view) c.in_ok-push.ensures.items ∙ map-append line_view c.args.lines.now.items (record { name = c.in_ok-name.name; end = c.in_ok-end.end } ∷ []) in
    all_more (IsTrue g.S.Store.tells) c.args.out.now refused first c.args.jobs.now c.args.done.now (map line_view c.args.lines.now.items) c.in-Some.first.now c.in-Some.more.now
    (held (g.S.Store.file c.args.store.now) (g.S.Store.faults c.args.store.now)) (held (g.S.Store.file c.write_tenant.new.store) (g.S.Store.faults c.write_tenant.new.store)) c.in_ok-end.end c.in_ok-end.ensures.later
    c.args.tenant (c.args.tenant + 1) (add-one c.args.tenant) set inputs
    (subst (λ (ws : List Tenant). CanWrite (IsTrue g.S.Store.tells) c.args.out.now c.args.tenant refused set inputs first (held (g.S.Store.file c.args.store.now) (g.S.Store.faults c.args.store.now)) c.args.jobs.now c.args.done.now ws) is can)
    c.in_ok-end.ensures.ran (held (g.S.Store.file c.write_tenants.new.store) (g.S.Store.faults c.write_tenants.new.store)) c.in_ok-name.name (map line_view c.push.new.self.items) (map line_view c.write_tenants.new.lines.items)
    c.write_tenants.result _ put (search rules) (λ set inputs can. c.write_tenants.ensures.wrote first set inputs refused can) (inl (err_of c.write_tenants.result _ c.in_err-write_tenants.was, c.from_residual-in_err-write_tenants.ensures.0))

pub returns-clause-wrote : goal.returns-clause-wrote
returns-clause-wrote g t c = λ first set inputs refused can.
    let is : c.args.tenants.now ≡ c.in-Some.first.now ∷ c.in-Some.more.now = search rules in
    let put = ap (map line_view) c.in_ok-push.ensures.items ∙ map-append line_view c.args.lines.now.items (record { name = c.in_ok-name.name; end = c.in_ok-end.end } ∷ []) in
    all_more (IsTrue g.S.Store.tells) c.args.out.now refused first c.args.jobs.now c.args.done.now (map line_view c.args.lines.now.items) c.in-Some.first.now c.in-Some.more.now
    (held (g.S.Store.file c.args.store.now) (g.S.Store.faults c.args.store.now)) (held (g.S.Store.file c.write_tenant.new.store) (g.S.Store.faults c.write_tenant.new.store)) c.in_ok-end.end c.in_ok-end.ensures.later
    c.args.tenant (c.args.tenant + 1) (add-one c.args.tenant) set inputs
    (subst (λ (ws : List Tenant). CanWrite (IsTrue g.S.Store.tells) c.args.out.now c.args.tenant refused set inputs first (held (g.S.Store.file c.args.store.now) (g.S.Store.faults c.args.store.now)) c.args.jobs.now c.args.done.now ws) is can)
    c.in_ok-end.ensures.ran (held (g.S.Store.file c.write_tenants.new.store) (g.S.Store.faults c.write_tenants.new.store)) c.in_ok-name.name (map line_view c.push.new.self.items) (map line_view c.write_tenants.new.lines.items)
    c.write_tenants.result _ put (search rules) (λ set inputs can. c.write_tenants.ensures.wrote first set inputs refused can) (inr (c.in_ok-write_tenants.was, refl))
