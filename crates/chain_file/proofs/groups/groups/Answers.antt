use Rattle.std.proofs.Common.{◌≡◌, ◌∙◌, ◌++◌, ◌∷◌, [], arith, ap, sym, map}
use Rattle.std.proofs.lemmas.Result.{err_from_is_err_and}
use Rattle.std.proofs.lemmas.List.{map_push}
use Rattle.toml.specs.View.{items_view}
use Rattle.chain_spec.specs.ChainSet.{are_distinct}
use Rattle.chain_spec.specs.Fields.{each}
use Rattle.chain_spec.specs.ChainWalk.{group_at}
use Rattle.chain_spec.proofs.Lists.{distinct_push}
use Rattle.chain_text.proofs.Arrays.{goes_on, leaves, ends}
use Rattle.chain_file.specs.View.{named_view, group_names}
use Rattle.chain_file.proofs.groups.groups.Goals as goal

pub returns-in_err-group-clause-value : goal.returns-in_err-group-clause-value
returns-in_err-group-clause-value c =
    let p = err_from_is_err_and c.from_residual.result c.from_residual.ensures.1 in
    let fails = leaves (group_at c.args.version c.args.place) c.in_err-group.field-0.0 (map named_view c.loop-value.groups.items) c.deref-value-items.result.now c.loop-value.value-index c.value-item.result _
    c.loop-value-test.true c.value-item.is c.loop-value.invariant.all (rw c.as_slice.ensures.value at c.in_err-group.ensures.value) in
    rw (p.1, p.2) (rw c.deref-value-items.ensures.value at fails)

pub loop-value-preserved : goal.loop-value-preserved
loop-value-preserved c =
    let x = c.in_ok-group.group in
    let before = c.loop-value.groups.items in
    let e : map named_view c.push.new.self.items ≡ map named_view before ++ named_view x ∷ [] = rw c.in_ok-push.ensures.items (map_push _ before x) in
    let names : group_names c.push.new.self.items ≡ group_names before ++ x.name ∷ [] = ap (map (λ y. y.name)) e ∙ map_push _ (map named_view before) (named_view x) in
    record {
      all = rw e (goes_on (group_at c.args.version c.args.place) (map named_view before) (named_view x) c.deref-value-items.result.now c.loop-value.value-index c.value-item.result _
          c.loop-value-test.true c.value-item.is (rw c.as_slice.ensures.value at c.in_ok-group.ensures.value) c.loop-value.invariant.all);
      count = omega (arith, c.in_ok-push.ensures.len);
      distinct = ap are_distinct names ∙ distinct_push (group_names before) x.name c.loop-value.invariant.distinct (rw c.as_slice.ensures.value at c.in_ok-group.ensures.fresh);
    }

pub returns-clause-value : goal.returns-clause-value
returns-clause-value c =
    ap (λ vs. each (group_at c.args.version c.args.place) (items_view vs)) (sym c.deref-value-items.ensures.value)
    ∙ ends (group_at c.args.version c.args.place) (map named_view c.loop-value.groups.items) c.deref-value-items.result.now c.loop-value.value-index _ c.loop-value-test.false c.loop-value.invariant.all
