use Rattle.batch_ops.proofs.Treats.{SoFar}
use Rattle.read_row.proofs.row.other_in_turn.Given as goal

-- what the stages that are left make of the packet, which stays as it is, all of them make of it
abbrev pub invariant-loop-at : goal.invariant-loop-at
invariant-loop-at g l = SoFar g.S.TreatRead.kind l.fn.stages l.stages l.class l.packet l.packet l.at
