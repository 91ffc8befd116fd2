use Rattle.std.proofs.Common.{◌≡◌, ◌∙◌, ◌*◌, ◌+◌, ◌/◌, ◌<◌, get_or, length, List, [], ℕ, sym, ap, arith, subst, refl, IfSome}
use Rattle.std.specs.List.{slice_index}
use Rattle.std.proofs.lemmas.Option.{slice_get-get_or}
use Rattle.lpm_fw.specs.Cells.{AreSorted, row_of}
use Rattle.lpm_fw.proofs.Sorted.{best_few, best_within}
use Rattle.lpm_fw.proofs.Division.{have_none, divided_none, divided_all}
use Rattle.lpm_fw.proofs.cells.divide.Goals as goal

pub row_cell-requires : goal.row_cell-requires
row_cell-requires c = best_few (length c.args.rows.now) c.args.best c.requires.few (best_within c.args.rows.now (c.args.w + 8) c.requires.range.0 c.args.best c.requires.range.1.leads)

pub loop-j-init : goal.loop-j-init
loop-j-init c = (
  have_none c.args.rows.now c.row_cell.result c.args.best c.row_cell.ensures.row (best_within c.args.rows.now (c.args.w + 8) c.requires.range.0 c.args.best c.requires.range.1.leads),
  (λ e part. c.new.ensures part),
  λ a sorted. divided_none c.args.rows.now c.args.w a c.args.inside.now c.row_cell.result c.args.best c.new.result c.row_cell.ensures.row c.new.ensures sorted,
)

pub place-requires-clause-k : goal.place-requires-clause-k
place-requires-clause-k c = (c.requires.range.1.within c.loop-j.j (get_or c.args.inside.now c.loop-j.j 0) (slice_get-get_or c.args.inside.now c.loop-j.j 0 c.loop-j-test.true)).within

pub place-requires-clause-small : goal.place-requires-clause-small
place-requires-clause-small c = (c.requires.range.1.within c.loop-j.j (get_or c.args.inside.now c.loop-j.j 0) (slice_get-get_or c.args.inside.now c.loop-j.j 0 c.loop-j-test.true)).few

pub loop-j-preserved : goal.loop-j-preserved
loop-j-preserved c =
    let at = slice_get-get_or c.args.inside.now c.loop-j.j 0 c.loop-j-test.true in (
      c.in_ok-place.ensures.rows,
      (λ e part. ap (λ inside. get_or inside part []) (c.in_ok-place.ensures.address e) ∙ c.loop-j.invariant.1 e part),
      λ a sorted. c.in_ok-place.ensures.placed a c.args.inside.now c.loop-j.j at (sorted.within c.loop-j.j (get_or c.args.inside.now c.loop-j.j 0) at) (c.loop-j.invariant.2 a sorted),
    )

pub returns-clause-divided : goal.returns-clause-divided
returns-clause-divided c a sorted = divided_all c.args.rows.now c.args.w a c.args.inside.now c.loop-j.j c.loop-j.divided.cells c.loop-j.divided.inside c.loop-j-test.false (c.loop-j.invariant.2 a sorted)
