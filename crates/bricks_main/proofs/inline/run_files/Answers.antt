use Rattle.std.proofs.Common.{◌≡◌, List, map, ap, sym, subst}
use Rattle.std.specs.Prelude.{IsTrue}
use Rattle.chain_types.specs.View.{chain_view}
use Rattle.run_spec.specs.Isolation.{none_refused}
use Rattle.run_spec.specs.Seen.{Says, held}
use Rattle.run_spec.specs.Tenants.{AllApart}
use Rattle.tenant_files.proofs.Whole.{reported_true, stopped_true}
use Rattle.bricks_main.proofs.inline.run_files.Goals as goal

pub returns-in-Ok-run_set-clause-is_true : goal.returns-in-Ok-run_set-clause-is_true
returns-in-Ok-run_set-clause-is_true g c =
    let is : c.in-Ok.set.items ≡ c.deref.result.now = sym c.deref.ensures.value in
    reported_true (IsTrue g.S.Store.tells) c.args.chains.now c.args.out.now none_refused (map chain_view c.deref.result.now) (held (g.S.Store.file c.args.store.now) (g.S.Store.faults c.args.store.now))
    (held (g.S.Store.file c.read_chains.new.store) (g.S.Store.faults c.read_chains.new.store)) (held (g.S.Store.file c.run_set.new.store) (g.S.Store.faults c.run_set.new.store)) c.in-Ok.ensures.held
    (λ tells. subst (λ (l : List _). Says c.args.chains.now c.args.out.now (g.S.Store.file c.args.store.now) (map chain_view l)) is (c.in-Ok.ensures.reads tells))
    (subst (λ (l : List _). AllApart c.args.out.now (map chain_view l)) is c.in-Ok.ensures.apart)
    c.in-Ok-run_set.lines c.in-Ok.ensures.cause.later c.in-Ok-run_set.ensures.ran

pub returns-clause-is_true : goal.returns-clause-is_true
returns-clause-is_true g c =
    let is : c.in-Ok.set.items ≡ c.deref.result.now = sym c.deref.ensures.value in
    stopped_true (IsTrue g.S.Store.tells) c.args.chains.now c.args.out.now none_refused (map chain_view c.deref.result.now) (held (g.S.Store.file c.args.store.now) (g.S.Store.faults c.args.store.now))
    (held (g.S.Store.file c.read_chains.new.store) (g.S.Store.faults c.read_chains.new.store)) (held (g.S.Store.file c.run_set.new.store) (g.S.Store.faults c.run_set.new.store)) c.in-Ok.ensures.held
    (λ tells. subst (λ (l : List _). Says c.args.chains.now c.args.out.now (g.S.Store.file c.args.store.now) (map chain_view l)) is (c.in-Ok.ensures.reads tells))
    (subst (λ (l : List _). AllApart c.args.out.now (map chain_view l)) is c.in-Ok.ensures.apart)
    c.in-Err.field-0 c.in-Err.ensures.ran
