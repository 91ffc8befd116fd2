-- the rows so far are in the cells or inside the parts
use Rattle.std.proofs.Common.{◌≡◌, ◌+◌, [], ℕ}
use Rattle.lpm_fw.specs.Cells.{AreSorted, AreDivided, HaveRows}
use Rattle.lpm_fw.specs.Parts.{rows_in}
use Rattle.lpm_fw.proofs.cells.divide.Given as goal

abbrev pub invariant-loop-j : goal.invariant-loop-j
invariant-loop-j l = HaveRows l.rows l.divided.cells × (l.w ≡ 0 → (part : ℕ) → rows_in l.divided.inside part ≡ [])
    × ((a : ℕ) → AreSorted l.rows (l.w + 8) a [] 0 l.inside l.fn.best → AreDivided l.rows l.w a l.inside l.j l.divided.cells l.divided.inside)
