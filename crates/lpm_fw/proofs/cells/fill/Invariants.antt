use Rattle.std.proofs.Common.{◌*◌}
use Rattle.lpm_fw.specs.Cells.{AreCells}
use Rattle.lpm_fw.proofs.cells.fill.Given as goal

abbrev pub invariant-loop-high : goal.invariant-loop-high
invariant-loop-high l = AreCells l.rows l.root.items l.blocks.items (l.high * 256)
