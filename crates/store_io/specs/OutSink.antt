-- What the standard output is seen as.
use Rattle.std.specs.Prelude.{ℕ}
use Rattle.store_io.specs.declared.host.OutSink.{OutSink}

-- how often it has failed
abbrev pub out_faults : {R : Type 0} → OutSink R → ℕ
out_faults s = s.faults
