-- What came of a receive, by cases.
use Rattle.lane_core.specs.declared.kit.Got.{Got}
use Rattle.lane_core.specs.declared.kit.Got.TheVariants.{Packet, Nothing, End}
use Rattle.packet_owner.specs.Packet.{PacketModel}
use Rattle.lane_core.specs.Got.{IfPacket}

pub if_packet : (g : Got) (P Q : PacketModel → Type 0) → ((p : PacketModel) → P p → Q p) → IfPacket g P → IfPacket g Q
if_packet (Packet p) P Q f h = f p h
if_packet Nothing P Q f h = tt
if_packet End P Q f h = tt
