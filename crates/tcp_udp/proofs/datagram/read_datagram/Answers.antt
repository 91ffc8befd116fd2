use Rattle.std.proofs.Common.{sym, ◌<◌, ◌^◌, arith}
use Rattle.tcp_udp.proofs.Reading.{datagram_read}
use Rattle.tcp_udp.proofs.datagram.read_datagram.Goals as goal

pub returns : goal.returns
returns c =
    let small : c.header_total.result < 2 ^ 16 = omega arith in
    datagram_read c.args.frame.now c.split_at.result.0.now c.split_at.result.1.now c.in_ok-start.start c.in_ok-length.length c.extent-end.result c.header_total.result
    (sym c.in_ok-start.ensures) c.split_at.ensures.front c.split_at.ensures.back (sym c.in_ok-length.ensures) c.extent-end.ensures c.header_total.ensures small
