-- the epochs so far have so many names
use Rattle.std.proofs.Common.{◌≡◌, ◌<◌, ℕ, Some}
use Rattle.std.specs.List.{slice_get}
use Rattle.lb_maglev.specs.EpochTables.{IsNamed}
use Rattle.lb_maglev.specs.declared.epochs.Epoch.{Epoch}
use Rattle.lb_maglev.proofs.epochs.are_named.Given as goal

abbrev pub invariant-loop-row : goal.invariant-loop-row
invariant-loop-row l = (k : ℕ) (e : Epoch) → k < l.row-index → slice_get l.rows k ≡ Some e → IsNamed e
