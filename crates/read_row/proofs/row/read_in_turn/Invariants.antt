use Rattle.batch_ops.proofs.Treats.{SoFar}
use Rattle.read_row.specs.Read.{IsRead}
use Rattle.read_row.proofs.row.read_in_turn.Given as goal

-- what the stages that are left make of the packet, as it is by now, all of them make of it as it came
abbrev pub invariant-loop-at : goal.invariant-loop-at
invariant-loop-at g l = record {
  read : IsRead l.packet.packet;
  so_far : SoFar g.S.TreatRead.kind l.fn.stages l.stages l.class l.fn.packet.packet l.packet.packet l.at;
}
