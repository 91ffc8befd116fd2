use Rattle.std.proofs.Common.{◌≡◌, ◌<◌, ℕ, length, Some}
use Rattle.std.specs.List.{slice_get}
use Rattle.lpm_fw.proofs.cells.every.Given as goal

abbrev pub invariant-loop-k : goal.invariant-loop-k
invariant-loop-k l = (length l.every.items ≡ l.k) × ((j : ℕ) → j < length l.every.items → slice_get l.every.items j ≡ Some j)
