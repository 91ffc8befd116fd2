-- What a store in memory is seen as.
use Rattle.std.specs.Prelude.{◌≡◌, ℕ, List, Contains}
use Rattle.brick_spec.specs.Files.{Files, FaultCounts}
use Rattle.brick_spec.specs.Cause.{one_more}
use Rattle.store_io.specs.Memory.{held, failures}
use Rattle.store_io.specs.declared.memory.MemStore.{MemStore}

-- the bytes at each name
abbrev pub mem_files : MemStore → Files
mem_files s = held s.files.items

-- how often each account has failed on each name
abbrev pub mem_faults : MemStore → FaultCounts
mem_faults s = failures s.log.items

-- the number of the call that comes
abbrev pub mem_calls : MemStore → ℕ
mem_calls s = s.calls

-- the numbers of the calls that are to fail
abbrev pub mem_fails : MemStore → List ℕ
mem_fails s = s.fails.items

-- the call that comes is to fail
abbrev pub IsToFail : MemStore → Type 0
IsToFail s = Contains (mem_fails s) (mem_calls s)

-- A call took the next number, and the same numbers are to fail.
pub record TakesNumber (old new : MemStore) : Type 0 where
  pub calls : mem_calls new ≡ one_more (mem_calls old)
  pub fails : mem_fails new ≡ mem_fails old
