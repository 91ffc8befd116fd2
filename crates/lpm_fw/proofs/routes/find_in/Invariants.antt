-- the best of the rows so far
use Rattle.lpm_fw.specs.Scan.{Best}
use Rattle.lpm_fw.proofs.routes.find_in.Given as goal

abbrev pub invariant-loop-k : goal.invariant-loop-k
invariant-loop-k l = Best l.rows l.addr l.k l.best
