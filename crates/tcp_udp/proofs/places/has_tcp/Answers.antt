use Rattle.std.proofs.Common.{refl}
use Rattle.tcp_udp.proofs.TcpFrames.{places_tcp}
use Rattle.tcp_udp.proofs.places.has_tcp.Goals as goal

pub returns-in-Tcp : goal.returns-in-Tcp
returns-in-Tcp c = (λ h. places_tcp c.args.frame.now c.in-Some.places c.in-Some.ensures c.in-Tcp.is, λ t. refl)
