use Rattle.std.proofs.Common.{◌≡◌, ◌∷◌, ◌++◌, [], List, suc, map, rules, sym, ap, ◌∙◌, subst, ◌+◌, add-one, append_assoc}
use Rattle.std.specs.Prelude.{IsTrue}
use Rattle.chain_types.specs.View.{chain_view}
use Rattle.run_spec.specs.Seen.{held}
use Rattle.tenant_files.specs.Inputs.{AreInputs}
use Rattle.tenant_files.proofs.Captures.{read_first}
use Rattle.tenant_files.proofs.inputs.+read_tenants.Goals as goal

pub returns-clause-inputs : goal.returns-clause-inputs
returns-clause-inputs g t c =
    let is : c.args.chains.now ≡ c.in-Some.chain.now ∷ c.in-Some.rest.now = search rules in
    let more = c.in_ok-read_tenants.ensures.inputs in (
      c.in_ok-input.input ∷ more.0,
      more.1 ∙ (ap (λ l. l ++ more.0) c.in_ok-push.ensures.items ∙ append_assoc c.args.inputs.now.items (c.in_ok-input.input ∷ []) more.0),
      read_first (IsTrue g.S.Store.tells) c.args.tenant (c.args.tenant + 1) _ _ _ (held (g.S.Store.file c.args.store.now) (g.S.Store.faults c.args.store.now))
          (held (g.S.Store.file c.read_tenant.new.store) (g.S.Store.faults c.read_tenant.new.store)) _ _ _ (ap (map chain_view) is) (add-one c.args.tenant) c.in_ok-input.ensures.held c.in_ok-input.ensures.later c.in_ok-read_tenants.ensures.later
          c.in_ok-input.ensures.input more.2,
    )
