-- the row is in the cells of the parts so far
use Rattle.lpm_fw.proofs.Cover.{Covered}
use Rattle.lpm_fw.proofs.cells.cover.Given as goal

abbrev pub invariant-loop-i : goal.invariant-loop-i
invariant-loop-i l = Covered l.rows l.k l.fn.part l.fn.free l.initial.cells l.cells l.i
