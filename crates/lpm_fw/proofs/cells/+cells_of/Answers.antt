use Rattle.std.proofs.Common.{◌≡◌, ◌∙◌, ◌<◌, ◌+◌, ◌-◌, ◌*◌, ℕ, arith, ap, sym, length}
use Rattle.std.proofs.lemmas.List.{get_or-set_other, length-set}
use Rattle.lpm_fw.specs.Cells.{row_of}
use Rattle.lpm_fw.specs.Parts.{rows_in}
use Rattle.lpm_fw.proofs.Blocks.{part_of_block, part_of_row, no_items, above_zero}
use Rattle.lpm_fw.proofs.Division.{part_sorted}
use Rattle.lpm_fw.proofs.cells.+cells_of.Goals as goal

pub loop-i-preserved-then-is_empty : goal.loop-i-preserved-then-is_empty
loop-i-preserved-then-is_empty t c =
    let inv = c.loop-i.invariant in (
      inv.0,
      (λ a sorted. part_of_row c.args.rows.now c.loop-i.blocks.items c.args.level a c.loop-i.cells c.in_ok-divided.divided.cells (rows_in c.in_ok-divided.divided.inside c.loop-i.i) c.loop-i.i c.requires.few
          c.loop-i-test.true c.in_ok-divided.ensures.rows (sym c.get-inside.ensures ∙ no_items c.get-inside.result.now c.if-is_empty.ensures) inv.2
          (c.in_ok-divided.ensures.divided a sorted c.loop-i.i c.loop-i-test.true) (inv.1 a sorted)),
      (λ j past. inv.2 j (omega arith)),
      inv.3,
    )

pub cells_of-requires : goal.cells_of-requires
cells_of-requires t c =
    let d = c.decreases in
    let above = above_zero c.args.level c.get-inside.result.now (λ e. c.get-inside.ensures ∙ c.in_ok-divided.ensures.address (ap (λ n. 8 * n) e) c.loop-i.i) c.if-is_empty.ensures in
    let best = c.row_of-best.ensures ∙ ap row_of (c.loop-i.invariant.2 c.loop-i.i (omega arith)) in
    let range = c.requires.range in (
      (omega arith),
      (
        c.requires.few,
        (
          c.requires.short,
          (
            (omega arith),
            (
              range.0 * 256 + c.loop-i.i,
              part_sorted c.args.rows.now c.args.level range.0 c.loop-i.i c.in_ok-divided.divided.cells c.get-inside.result.now c.in_ok-divided.divided.inside c.row_of-best.result above c.loop-i-test.true
                  c.get-inside.ensures best (c.in_ok-divided.ensures.divided range.0 range.1),
            ),
          ),
        ),
      ),
    )

pub loop-i-preserved : goal.loop-i-preserved
loop-i-preserved t c =
    let inv = c.loop-i.invariant in
    let above = above_zero c.args.level c.get-inside.result.now (λ e. c.get-inside.ensures ∙ c.in_ok-divided.ensures.address (ap (λ n. 8 * n) e) c.loop-i.i) c.if-is_empty.ensures in
    let best = c.row_of-best.ensures ∙ ap row_of (inv.2 c.loop-i.i (omega arith)) in (
      (λ k block at. c.in_ok-cells.ensures.more k block (c.in_ok-block.ensures.more k block (inv.0 k block at))),
      (λ a sorted. part_of_block c.args.rows.now c.loop-i.blocks.items c.cells_of.new.blocks.items c.put_block.new.blocks.items c.args.level a c.loop-i.cells c.in_ok-block.block c.loop-i.i c.in_ok-cells.field-0
          inv.3 c.loop-i-test.true above c.in_ok-block.ensures.more c.in_ok-cells.ensures.more (inv.1 a sorted)
          (c.in_ok-block.ensures.cells (a * 256 + c.loop-i.i)
          (part_sorted c.args.rows.now c.args.level a c.loop-i.i c.in_ok-divided.divided.cells c.get-inside.result.now c.in_ok-divided.divided.inside c.row_of-best.result above c.loop-i-test.true c.get-inside.ensures best
          (c.in_ok-divided.ensures.divided a sorted))) c.in_ok-cells.ensures.cell c.in_ok-cells.ensures.block),
      (λ j past. get_or-set_other c.loop-i.cells c.loop-i.i j c.in_ok-cells.field-0 0 (λ e. absurd (omega arith)) ∙ inv.2 j (omega arith)),
      length-set c.loop-i.cells c.loop-i.i c.in_ok-cells.field-0 ∙ inv.3,
    )
