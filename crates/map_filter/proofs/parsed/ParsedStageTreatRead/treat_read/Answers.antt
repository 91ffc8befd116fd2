use Rattle.std.proofs.Common.{refl}
use Rattle.brick_spec.specs.Stage.{parsed_stage}
use Rattle.packet_owner.specs.Packet.{packet_item}
use Rattle.map_filter.proofs.Datagrams.{parsed_passes}
use Rattle.map_filter.proofs.Steps.{keeps}
use Rattle.map_filter.proofs.parsed.ParsedStageTreatRead.treat_read.Goals as goal

pub returns-clause-treats : goal.returns-clause-treats
returns-clause-treats c = let p = c.args.«_packet».now.packet in keeps (λ _. parsed_stage) c.args.self.now c.args.«_class».now p p (parsed_passes (packet_item p) c.requires.layer c.requires.is, refl)
