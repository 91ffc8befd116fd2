use Rattle.std.proofs.Common.{rules, sym}
use Rattle.tcp_udp.proofs.Placed.{tcp_placed, udp_placed}
use Rattle.tcp_udp.proofs.places.read_places.Goals as goal

pub returns-in-Some : goal.returns-in-Some
returns-in-Some c =
    let d = c.in_ok-datagram.datagram in
    tcp_placed c.args.frame.now d.header.now d.payload.now d.is_cut c.in-Some.length c.in_ok-datagram.ensures (sym c.in-Some.ensures)

pub returns : goal.returns
returns c =
    let d = c.in_ok-datagram.datagram in
    udp_placed c.args.frame.now d.header.now d.payload.now d.is_cut c.in_ok-length.length c.extent-end.result c.in_ok-datagram.ensures (search rules) (sym c.in_ok-length.ensures) c.extent-end.ensures
