-- the rows so far are short
use Rattle.std.proofs.Common.{◌≡◌, ◌<◌, ◌≤◌, ℕ, Some}
use Rattle.std.specs.List.{slice_get}
use Rattle.lpm_fw.specs.declared.routes.Route.{Route}
use Rattle.lpm_fw.proofs.routes.are_short.Given as goal

abbrev pub invariant-loop-row : goal.invariant-loop-row
invariant-loop-row l = (k : ℕ) (row : Route) → k < l.row-index → slice_get l.rows k ≡ Some row → row.bits ≤ 32
