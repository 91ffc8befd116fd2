-- the names so far
use Rattle.std.proofs.Common.{◌≡◌, take}
use Rattle.flow_stages.specs.Rows.{names_in}
use Rattle.flow_stages.proofs.backends.names_of.Given as goal

abbrev pub invariant-loop-k : goal.invariant-loop-k
invariant-loop-k l = l.names.items ≡ names_in (take l.k l.backends)
