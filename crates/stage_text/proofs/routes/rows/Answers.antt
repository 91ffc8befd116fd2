use Rattle.std.proofs.Common.{◌≡◌, ◌∙◌, ◌++◌, ◌∷◌, [], arith, ap, sym, map}
use Rattle.std.proofs.lemmas.Result.{err_from_is_err_and}
use Rattle.std.proofs.lemmas.List.{map_push}
use Rattle.toml.specs.View.{items_view}
use Rattle.chain_spec.specs.Fields.{each}
use Rattle.chain_spec.specs.StageWalk.{route_at}
use Rattle.chain_text.proofs.Arrays.{goes_on, leaves, ends}
use Rattle.lpm_fw.specs.RouteView.{route_view}
use Rattle.std.proofs.Common.{subst}
use Rattle.lpm_fw.specs.Scan.{AreShort}
use Rattle.stage_text.proofs.Rows.{short_push}
use Rattle.stage_text.proofs.routes.rows.Goals as goal

pub returns-in_err-row-clause-value : goal.returns-in_err-row-clause-value
returns-in_err-row-clause-value c =
    let p = err_from_is_err_and c.from_residual.result c.from_residual.ensures.1 in
    let fails = leaves (route_at c.args.place) c.in_err-row.field-0.0 (map route_view c.loop-value.rows.items) c.deref-value-items.result.now c.loop-value.value-index c.value-item.result _
    c.loop-value-test.true c.value-item.is c.loop-value.invariant.all (rw c.as_slice.ensures.value at c.in_err-row.ensures.value) in
    rw (p.1, p.2) (rw c.deref-value-items.ensures.value at fails)

pub loop-value-preserved : goal.loop-value-preserved
loop-value-preserved c =
    let x = c.in_ok-row.row in
    let before = c.loop-value.rows.items in
    let e : map route_view c.push.new.self.items ≡ map route_view before ++ route_view x ∷ [] = rw c.in_ok-push.ensures.items (map_push _ before x) in
    record {
      all = rw e (goes_on (route_at c.args.place) (map route_view before) (route_view x) c.deref-value-items.result.now c.loop-value.value-index c.value-item.result _
          c.loop-value-test.true c.value-item.is (rw c.as_slice.ensures.value at c.in_ok-row.ensures.value) c.loop-value.invariant.all);
      count = omega (arith, c.in_ok-push.ensures.len);
      short = subst AreShort (sym c.in_ok-push.ensures.items) (short_push before x c.loop-value.invariant.short c.in_ok-row.ensures.short);
    }

pub returns-clause-value : goal.returns-clause-value
returns-clause-value c =
    ap (λ vs. each (route_at c.args.place) (items_view vs)) (sym c.deref-value-items.ensures.value)
    ∙ ends (route_at c.args.place) (map route_view c.loop-value.rows.items) c.deref-value-items.result.now c.loop-value.value-index _ c.loop-value-test.false c.loop-value.invariant.all
