use Rattle.std.proofs.Common.{◌≡◌, ◌∙◌, ◌++◌, ◌∷◌, [], arith, ap, sym, map}
use Rattle.std.proofs.lemmas.Result.{err_from_is_err_and}
use Rattle.std.proofs.lemmas.List.{map_push}
use Rattle.toml.specs.View.{items_view}
use Rattle.chain_spec.specs.Fields.{each}
use Rattle.chain_spec.specs.StageWalk.{epoch_at}
use Rattle.chain_text.proofs.Arrays.{goes_on, leaves, ends}
use Rattle.chain_types.specs.StageView.{change_view}
use Rattle.std.specs.List.{list_all}
use Rattle.chain_spec.specs.ChainSet.{are_rising, are_backends_right}
use Rattle.chain_spec.proofs.Lists.{rising_push, all_push}
use Rattle.stage_text.proofs.epochs.epochs.Goals as goal

pub returns-in_err-epoch-clause-value : goal.returns-in_err-epoch-clause-value
returns-in_err-epoch-clause-value c =
    let p = err_from_is_err_and c.from_residual.result c.from_residual.ensures.1 in
    let fails = leaves (epoch_at c.args.place) c.in_err-epoch.field-0.0 (map change_view c.loop-value.epochs.items) c.deref-value-items.result.now c.loop-value.value-index c.value-item.result _
    c.loop-value-test.true c.value-item.is c.loop-value.invariant.all (rw c.as_slice.ensures.value at c.in_err-epoch.ensures.value) in
    rw (p.1, p.2) (rw c.deref-value-items.ensures.value at fails)

pub loop-value-preserved : goal.loop-value-preserved
loop-value-preserved c =
    let x = c.in_ok-epoch.epoch in
    let before = c.loop-value.epochs.items in
    let e : map change_view c.push.new.self.items ≡ map change_view before ++ change_view x ∷ [] = rw c.in_ok-push.ensures.items (map_push _ before x) in
    record {
      all = rw e (goes_on (epoch_at c.args.place) (map change_view before) (change_view x) c.deref-value-items.result.now c.loop-value.value-index c.value-item.result _
          c.loop-value-test.true c.value-item.is (rw c.as_slice.ensures.value at c.in_ok-epoch.ensures.value) c.loop-value.invariant.all);
      count = omega (arith, c.in_ok-push.ensures.len);
      rising = ap (are_rising 0) e ∙ rising_push (map change_view before) (change_view x) c.loop-value.invariant.rising (rw c.as_slice.ensures.value at c.in_ok-epoch.ensures.rises);
      right = ap (list_all (λ c. are_backends_right c.backends)) e ∙ all_push (λ c. are_backends_right c.backends) (map change_view before) (change_view x) c.loop-value.invariant.right c.in_ok-epoch.ensures.right;
    }

pub returns-clause-value : goal.returns-clause-value
returns-clause-value c =
    ap (λ vs. each (epoch_at c.args.place) (items_view vs)) (sym c.deref-value-items.ensures.value)
    ∙ ends (epoch_at c.args.place) (map change_view c.loop-value.epochs.items) c.deref-value-items.result.now c.loop-value.value-index _ c.loop-value-test.false c.loop-value.invariant.all
