use Rattle.std.proofs.Common.{refl}
use Rattle.brick_spec.specs.Stage.{parsed_stage}
use Rattle.brick_base.specs.declared.drops.Reason.TheVariants.{Unparsed}
use Rattle.packet_owner.specs.Packet.{packet_item}
use Rattle.map_filter.proofs.Datagrams.{unparsed_drops}
use Rattle.map_filter.proofs.Steps.{rejects}
use Rattle.map_filter.proofs.parsed.ParsedStageTreatRead.treat_other.Goals as goal

pub returns : goal.returns
returns c = let p = c.args.«_packet».now in rejects (λ _. parsed_stage) c.args.self.now c.args.«_class».now p p Unparsed (unparsed_drops (packet_item p) c.requires, refl)
