use Rattle.std.proofs.Common.{refl}
use Rattle.brick_spec.specs.Stage.{ttl_stage, ttl_at}
use Rattle.packet_owner.specs.Packet.{packet_item}
use Rattle.map_filter.proofs.Datagrams.{passes_other}
use Rattle.map_filter.proofs.Steps.{keeps}
use Rattle.map_filter.proofs.edits.TtlStageTreatRead.treat_other.Goals as goal

pub returns : goal.returns
returns c = let p = c.args.«_packet».now in keeps (λ _. ttl_stage) c.args.self.now c.args.«_class».now p p (passes_other (packet_item p) (ttl_at (packet_item p)) c.requires, refl)
