use Rattle.std.proofs.Common.{length}
use Rattle.std.specs.Prelude.{IsTrue}
use Rattle.store_files.proofs.Loops.{Written, Later}
use Rattle.store_files.proofs.writing.write_whole.Given as goal

abbrev pub invariant-loop-rest : goal.invariant-loop-rest
invariant-loop-rest g l = record {
  files : IsTrue g.S.Store.tells → Written l.name l.text l.rest (g.S.Store.file l.fn.store) (g.S.Store.file l.store);
  counts : Later l.account (g.S.Store.faults l.fn.store) (g.S.Store.faults l.store);
}

abbrev pub decreases-loop-rest : goal.decreases-loop-rest
decreases-loop-rest g l = length l.rest
