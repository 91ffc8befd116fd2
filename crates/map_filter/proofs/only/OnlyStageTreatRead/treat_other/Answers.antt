use Rattle.std.proofs.Common.{refl}
use Rattle.brick_spec.specs.Stage.{match_stage}
use Rattle.tcp_udp.specs.MatchView.{match_view}
use Rattle.packet_owner.specs.Packet.{packet_item}
use Rattle.map_filter.specs.declared.only.OnlyStage.{OnlyStage}
use Rattle.map_filter.proofs.Steps.{keeps}
use Rattle.map_filter.proofs.Wanted.{no_tuple_passes}
use Rattle.map_filter.proofs.only.OnlyStageTreatRead.treat_other.Goals as goal

pub returns : goal.returns
returns c = let p = c.args.«_packet».now in keeps (λ (s : OnlyStage). match_stage (match_view s.wanted)) c.args.self.now c.args.«_class».now p p (no_tuple_passes (packet_item p) _ c.requires, refl)
