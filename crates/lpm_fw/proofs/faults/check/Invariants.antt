-- the rows so far have no fault, and their prefixes are in the map
use Rattle.std.proofs.Common.{take}
use Rattle.lpm_fw.specs.Firsts.{AreFirsts}
use Rattle.lpm_fw.proofs.FirstFault.{RightBefore}
use Rattle.lpm_fw.proofs.faults.check.Given as goal

abbrev pub invariant-loop-r : goal.invariant-loop-r
invariant-loop-r l = AreFirsts (take l.r l.rows) l.firsts × RightBefore l.rows l.r
