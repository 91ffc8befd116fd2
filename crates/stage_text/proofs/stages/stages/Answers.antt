use Rattle.std.proofs.Common.{◌≡◌, ◌∙◌, ◌++◌, ◌∷◌, [], arith, ap, sym, map}
use Rattle.std.proofs.lemmas.Result.{err_from_is_err_and}
use Rattle.std.proofs.lemmas.List.{map_push}
use Rattle.toml.specs.View.{items_view}
use Rattle.chain_spec.specs.Fields.{each}
use Rattle.chain_spec.specs.StageWalk.{stage_at}
use Rattle.chain_text.proofs.Arrays.{goes_on, leaves, ends}
use Rattle.chain_types.specs.StageView.{stage_view, stages_view}
use Rattle.std.specs.List.{list_all}
use Rattle.chain_spec.specs.ChainSet.{is_stage_right}
use Rattle.chain_spec.proofs.Lists.{all_push}
use Rattle.stage_text.proofs.stages.stages.Goals as goal

pub returns-in_err-stage-clause-value : goal.returns-in_err-stage-clause-value
returns-in_err-stage-clause-value c =
    let p = err_from_is_err_and c.from_residual.result c.from_residual.ensures.1 in
    let fails = leaves (stage_at c.args.place) c.in_err-stage.field-0.0 (stages_view c.loop-value.stages.items) c.deref-value-items.result.now c.loop-value.value-index c.value-item.result _
    c.loop-value-test.true c.value-item.is c.loop-value.invariant.all (rw c.as_slice.ensures.value at c.in_err-stage.ensures.value) in
    rw (p.1, p.2) (rw c.deref-value-items.ensures.value at fails)

pub loop-value-preserved : goal.loop-value-preserved
loop-value-preserved c =
    let x = c.in_ok-stage.stage in
    let before = c.loop-value.stages.items in
    let e : stages_view c.push.new.self.items ≡ stages_view before ++ stage_view x ∷ [] = rw c.in_ok-push.ensures.items (map_push _ before x) in
    record {
      all = rw e (goes_on (stage_at c.args.place) (stages_view before) (stage_view x) c.deref-value-items.result.now c.loop-value.value-index c.value-item.result _
          c.loop-value-test.true c.value-item.is (rw c.as_slice.ensures.value at c.in_ok-stage.ensures.value) c.loop-value.invariant.all);
      count = omega (arith, c.in_ok-push.ensures.len);
      right = ap (list_all is_stage_right) e ∙ all_push is_stage_right (stages_view before) (stage_view x) c.loop-value.invariant.right c.in_ok-stage.ensures.right;
    }

pub returns-clause-value : goal.returns-clause-value
returns-clause-value c =
    ap (λ vs. each (stage_at c.args.place) (items_view vs)) (sym c.deref-value-items.ensures.value)
    ∙ ends (stage_at c.args.place) (stages_view c.loop-value.stages.items) c.deref-value-items.result.now c.loop-value.value-index _ c.loop-value-test.false c.loop-value.invariant.all
