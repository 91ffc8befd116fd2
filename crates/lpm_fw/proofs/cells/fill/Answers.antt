use Rattle.std.proofs.Common.{◌≡◌, ◌+◌, ◌*◌, List, ℕ, [], None, Option, subst, sym, arith}
use Rattle.lpm_fw.specs.declared.routes.Route.{Route}
use Rattle.lpm_fw.specs.Cells.{AreCells, AreSorted}
use Rattle.lpm_fw.proofs.Blocks.{root_more}
use Rattle.lpm_fw.proofs.Sorted.{sorted_every}
use Rattle.lpm_fw.proofs.Division.{high_sorted}
use Rattle.lpm_fw.proofs.cells.fill.Goals as goal

all_rows : (rows : List Route) (list every : List ℕ) → list ≡ every → AreSorted rows 32 0 [] 0 every None → AreSorted rows 32 0 [] 0 list None
all_rows rows list every e sorted = subst (λ (xs : List ℕ). AreSorted rows 32 0 [] 0 xs None) (sym e) sorted

pub divide-requires-clause-range : goal.divide-requires-clause-range
divide-requires-clause-range c =
    (0, all_rows c.args.rows.now c.deref.result.now c.in_ok-every.every.items c.deref.ensures.value (sorted_every c.args.rows.now c.in_ok-every.every.items c.in_ok-every.ensures.long c.in_ok-every.ensures.each))

pub cells_of-requires-clause-range : goal.cells_of-requires-clause-range
cells_of-requires-clause-range c =
    let every = all_rows c.args.rows.now c.deref.result.now c.in_ok-every.every.items c.deref.ensures.value (sorted_every c.args.rows.now c.in_ok-every.every.items c.in_ok-every.ensures.long c.in_ok-every.ensures.each) in (
      c.loop-high.high,
      high_sorted c.args.rows.now c.loop-high.high c.in_ok-divided.divided.cells c.get-inside.result.now c.in_ok-divided.divided.inside c.row_of-best.result c.loop-high-test.true c.get-inside.ensures
          c.row_of-best.ensures (c.in_ok-divided.ensures.divided 0 every),
    )

pub loop-high-preserved : goal.loop-high-preserved
loop-high-preserved c =
    let rows = c.args.rows.now in
    let every = all_rows rows c.deref.result.now c.in_ok-every.every.items c.deref.ensures.value (sorted_every rows c.in_ok-every.every.items c.in_ok-every.ensures.long c.in_ok-every.ensures.each) in
    let cells = c.in_ok-cells.ensures.cells c.loop-high.high (
    high_sorted rows c.loop-high.high c.in_ok-divided.divided.cells c.get-inside.result.now c.in_ok-divided.divided.inside c.row_of-best.result c.loop-high-test.true c.get-inside.ensures
    c.row_of-best.ensures (c.in_ok-divided.ensures.divided 0 every)) in
    let next : c.loop-high.high * 256 + 256 ≡ (c.loop-high.high + 1) * 256 = omega arith in
    subst (AreCells rows c.put_cells.new.root.items c.cells_of.new.blocks.items) next
    (subst (λ (root : List ℕ). AreCells rows root c.cells_of.new.blocks.items (c.loop-high.high * 256 + 256)) (sym c.in_ok-put_cells.ensures)
    (root_more rows c.loop-high.root.items c.in_ok-cells.cells c.loop-high.blocks.items c.cells_of.new.blocks.items c.loop-high.high c.in_ok-cells.ensures.long c.loop-high.invariant c.in_ok-cells.ensures.more cells))
