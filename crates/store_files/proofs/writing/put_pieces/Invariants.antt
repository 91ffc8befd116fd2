use Rattle.std.proofs.Common.{◌<◌, ◌++◌, length}
use Rattle.std.specs.Prelude.{IsTrue}
use Rattle.store_files.specs.WholeFiles.{Puts}
use Rattle.store_files.proofs.Loops.{Later}
use Rattle.store_files.proofs.writing.put_pieces.Given as goal

abbrev pub invariant-loop-rest : goal.invariant-loop-rest
invariant-loop-rest g l = record {
  files : IsTrue g.S.Store.tells → Puts l.name (l.fn.waiting.items ++ l.bytes) (l.waiting.items ++ l.rest) (g.S.Store.file l.fn.store) (g.S.Store.file l.store);
  counts : Later l.account (g.S.Store.faults l.fn.store) (g.S.Store.faults l.store);
  room : length l.waiting.items < 1048576;
}

abbrev pub decreases-loop-rest : goal.decreases-loop-rest
decreases-loop-rest g l = length l.rest
