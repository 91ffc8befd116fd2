-- the epochs so far
use Rattle.std.proofs.Common.{◌≡◌, take}
use Rattle.flow_stages.specs.Rows.{names_in, begins_in, rows_in, begins_built, names_built}
use Rattle.flow_stages.proofs.backends.epochs_of.Given as goal

abbrev pub invariant-loop-k : goal.invariant-loop-k
invariant-loop-k l = (begins_built l.rows.items ≡ begins_in (take l.k l.changes)) × (names_built l.rows.items ≡ rows_in names_in l.fn.backends (take l.k l.changes))
