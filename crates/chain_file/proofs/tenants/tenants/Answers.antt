use Rattle.std.proofs.Common.{◌≡◌, ◌∙◌, ◌++◌, ◌∷◌, [], arith, ap, sym, map}
use Rattle.std.proofs.lemmas.Result.{err_from_is_err_and}
use Rattle.std.proofs.lemmas.List.{map_push}
use Rattle.toml.specs.View.{items_view}
use Rattle.chain_spec.specs.ChainSet.{are_distinct}
use Rattle.chain_spec.specs.Fields.{each}
use Rattle.chain_spec.specs.ChainWalk.{tenant_at}
use Rattle.chain_spec.proofs.Lists.{distinct_push}
use Rattle.chain_text.proofs.Arrays.{goes_on, leaves, ends}
use Rattle.chain_types.specs.View.{chain_view}
use Rattle.chain_file.specs.View.{chain_names}
use Rattle.chain_file.proofs.tenants.tenants.Goals as goal

pub returns-in_err-chain-clause-value : goal.returns-in_err-chain-clause-value
returns-in_err-chain-clause-value c =
    let p = err_from_is_err_and c.from_residual.result c.from_residual.ensures.1 in
    let fails = leaves (tenant_at c.args.version) c.in_err-chain.field-0.0 (map chain_view c.loop-value.chains.items) c.deref-value-items.result.now c.loop-value.value-index c.value-item.result _
    c.loop-value-test.true c.value-item.is c.loop-value.invariant.all (rw c.as_slice.ensures.value at c.in_err-chain.ensures.value) in
    rw (p.1, p.2) (rw c.deref-value-items.ensures.value at fails)

pub loop-value-preserved : goal.loop-value-preserved
loop-value-preserved c =
    let x = c.in_ok-chain.chain in
    let before = c.loop-value.chains.items in
    let e : map chain_view c.push.new.self.items ≡ map chain_view before ++ chain_view x ∷ [] = rw c.in_ok-push.ensures.items (map_push _ before x) in
    let names : chain_names c.push.new.self.items ≡ chain_names before ++ x.name ∷ [] = ap (map (λ y. y.name)) e ∙ map_push _ (map chain_view before) (chain_view x) in
    record {
      all = rw e (goes_on (tenant_at c.args.version) (map chain_view before) (chain_view x) c.deref-value-items.result.now c.loop-value.value-index c.value-item.result _
          c.loop-value-test.true c.value-item.is (rw c.as_slice.ensures.value at c.in_ok-chain.ensures.value) c.loop-value.invariant.all);
      count = omega (arith, c.in_ok-push.ensures.len);
      distinct = ap are_distinct names ∙ distinct_push (chain_names before) x.name c.loop-value.invariant.distinct (rw c.as_slice.ensures.value at c.in_ok-chain.ensures.fresh);
    }

pub returns-clause-value : goal.returns-clause-value
returns-clause-value c =
    ap (λ vs. each (tenant_at c.args.version) (items_view vs)) (sym c.deref-value-items.ensures.value)
    ∙ ends (tenant_at c.args.version) (map chain_view c.loop-value.chains.items) c.deref-value-items.result.now c.loop-value.value-index _ c.loop-value-test.false c.loop-value.invariant.all
