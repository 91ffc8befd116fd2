-- What the files of the system are seen as.
use Rattle.brick_spec.specs.Files.{FaultCounts}
use Rattle.store_io.specs.Host.{per_account}
use Rattle.store_io.specs.declared.host.FileStore.{FileStore}

-- how often each account has failed, on whichever of its names
abbrev pub file_faults : {R File Dir : Type 0} → FileStore R File Dir → FaultCounts
file_faults s = per_account s.counts
