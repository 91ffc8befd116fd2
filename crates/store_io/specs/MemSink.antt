-- What a sink in memory is seen as.
use Rattle.std.specs.Prelude.{◌≡◌, ℕ, List, Contains}
use Rattle.brick_spec.specs.Cause.{one_more}
use Rattle.store_io.specs.declared.sink.MemSink.{MemSink}

-- the bytes written so far
abbrev pub mem_written : MemSink → List ℕ
mem_written s = s.bytes.items

-- how often it has failed
abbrev pub mem_sink_faults : MemSink → ℕ
mem_sink_faults s = s.faults

-- the number of the write that comes
abbrev pub mem_writes : MemSink → ℕ
mem_writes s = s.writes

-- the numbers of the writes that are to fail
abbrev pub mem_sink_fails : MemSink → List ℕ
mem_sink_fails s = s.fails.items

-- the write that comes is to fail
abbrev pub IsWriteToFail : MemSink → Type 0
IsWriteToFail s = Contains (mem_sink_fails s) (mem_writes s)

-- A write took the next number, and the same numbers are to fail.
pub record TakesWrite (old new : MemSink) : Type 0 where
  pub writes : mem_writes new ≡ one_more (mem_writes old)
  pub fails : mem_sink_fails new ≡ mem_sink_fails old
