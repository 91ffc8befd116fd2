use Rattle.std.proofs.Common.{◌≡◌, ◌∙◌, ◌++◌, ◌∷◌, [], arith, ap, sym, map}
use Rattle.std.proofs.lemmas.Result.{err_from_is_err_and}
use Rattle.std.proofs.lemmas.List.{map_push}
use Rattle.toml.specs.View.{items_view}
use Rattle.chain_spec.specs.Fields.{each}
use Rattle.chain_spec.specs.StageWalk.{rule_at}
use Rattle.chain_text.proofs.Arrays.{goes_on, leaves, ends}
use Rattle.lpm_fw.specs.RuleView.{rule_view}
use Rattle.stage_text.proofs.rules.rules.Goals as goal

pub returns-in_err-rule-clause-value : goal.returns-in_err-rule-clause-value
returns-in_err-rule-clause-value c =
    let p = err_from_is_err_and c.from_residual.result c.from_residual.ensures.1 in
    let fails = leaves (rule_at c.args.place) c.in_err-rule.field-0.0 (map rule_view c.loop-value.rules.items) c.deref-value-items.result.now c.loop-value.value-index c.value-item.result _
    c.loop-value-test.true c.value-item.is c.loop-value.invariant.all (rw c.as_slice.ensures.value at c.in_err-rule.ensures) in
    rw (p.1, p.2) (rw c.deref-value-items.ensures.value at fails)

pub loop-value-preserved : goal.loop-value-preserved
loop-value-preserved c =
    let x = c.in_ok-rule.rule in
    let before = c.loop-value.rules.items in
    let e : map rule_view c.push.new.self.items ≡ map rule_view before ++ rule_view x ∷ [] = rw c.in_ok-push.ensures.items (map_push _ before x) in
    record {
      all = rw e (goes_on (rule_at c.args.place) (map rule_view before) (rule_view x) c.deref-value-items.result.now c.loop-value.value-index c.value-item.result _
          c.loop-value-test.true c.value-item.is (rw c.as_slice.ensures.value at c.in_ok-rule.ensures) c.loop-value.invariant.all);
      count = omega (arith, c.in_ok-push.ensures.len);
    }

pub returns-clause-value : goal.returns-clause-value
returns-clause-value c =
    ap (λ vs. each (rule_at c.args.place) (items_view vs)) (sym c.deref-value-items.ensures.value)
    ∙ ends (rule_at c.args.place) (map rule_view c.loop-value.rules.items) c.deref-value-items.result.now c.loop-value.value-index _ c.loop-value-test.false c.loop-value.invariant.all
