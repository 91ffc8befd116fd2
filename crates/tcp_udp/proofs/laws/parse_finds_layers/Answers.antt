use Rattle.tcp_udp.proofs.PacketLayers.{finds_layers}
use Rattle.tcp_udp.proofs.laws.parse_finds_layers.Goals as goal

pub returns : goal.returns
returns c = finds_layers
