-- the addresses so far
use Rattle.std.proofs.Common.{◌≡◌, take}
use Rattle.flow_stages.specs.Rows.{macs_in, rows_in, macs_built}
use Rattle.flow_stages.proofs.backends.addresses_of.Given as goal

abbrev pub invariant-loop-k : goal.invariant-loop-k
invariant-loop-k l = macs_built l.rows.items ≡ rows_in macs_in l.fn.backends (take l.k l.changes)
