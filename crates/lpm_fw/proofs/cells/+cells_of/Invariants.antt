-- the cells so far, with the blocks so far
use Rattle.std.proofs.Common.{◌≡◌, ◌≤◌, ◌+◌, ◌*◌, ℕ, length, []}
use Rattle.std.specs.List.{slice_index}
use Rattle.lpm_fw.specs.Cells.{AreMore, AreParts, AreSorted}
use Rattle.lpm_fw.proofs.cells.+cells_of.Given as goal

abbrev pub decreases-cells_of : goal.decreases-cells_of
decreases-cells_of l = l.level

abbrev pub invariant-loop-i : goal.invariant-loop-i
invariant-loop-i l = AreMore l.initial.blocks.items l.blocks.items
    × ((a : ℕ) → AreSorted l.rows (8 * l.level + 8) a [] 0 l.fn.inside l.fn.best → AreParts l.rows l.blocks.items l.level a l.cells l.i)
    × ((j : ℕ) → l.i ≤ j → slice_index l.cells j ≡ slice_index l.divided.cells j) × (length l.cells ≡ 256)
