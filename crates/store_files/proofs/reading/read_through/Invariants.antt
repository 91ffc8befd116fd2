use Rattle.std.proofs.Common.{◌<◌, ◌-◌, ◌+◌, length, vec_len}
use Rattle.std.specs.Prelude.{IsTrue}
use Rattle.store_files.proofs.Loops.{ReadSoFar, Later}
use Rattle.store_files.proofs.reading.read_through.Given as goal

abbrev pub invariant-loop-store : goal.invariant-loop-store
invariant-loop-store g l = record {
  files : IsTrue g.S.Store.tells → ReadSoFar l.name l.bytes.items (g.S.Store.file l.fn.store) (g.S.Store.file l.store);
  counts : Later l.account (g.S.Store.faults l.fn.store) (g.S.Store.faults l.store);
  room : 0 < length l.chunk;
}

abbrev pub decreases-loop-store : goal.decreases-loop-store
decreases-loop-store g l = l.limit + 1 - vec_len l.bytes
