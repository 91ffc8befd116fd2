-- the macs so far
use Rattle.std.proofs.Common.{◌≡◌, take}
use Rattle.flow_stages.specs.Rows.{macs_in}
use Rattle.flow_stages.proofs.backends.macs_of.Given as goal

abbrev pub invariant-loop-k : goal.invariant-loop-k
invariant-loop-k l = l.macs.items ≡ macs_in (take l.k l.backends)
