use Rattle.std.proofs.Common.{refl}
use Rattle.brick_spec.specs.Stage.{tos_stage}
use Rattle.packet_owner.specs.Packet.{packet_item}
use Rattle.map_filter.specs.declared.edits.TosStage.{TosStage}
use Rattle.map_filter.proofs.Datagrams.{passes_other}
use Rattle.map_filter.proofs.Steps.{keeps}
use Rattle.map_filter.proofs.edits.TosStageTreatRead.treat_other.Goals as goal

pub returns : goal.returns
returns c = let p = c.args.«_packet».now in keeps (λ (s : TosStage). tos_stage s.value) c.args.self.now c.args.«_class».now p p (passes_other (packet_item p) _ c.requires, refl)
