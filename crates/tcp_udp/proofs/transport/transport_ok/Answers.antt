use Rattle.std.proofs.Common.{◌∙◌, sym}
use Rattle.tcp_udp.proofs.Reading.{cut_read, tcp_read, udp_long_read, udp_plain_read, udp_read}
use Rattle.tcp_udp.proofs.transport.transport_ok.Goals as goal
use Rattle.tcp_udp.proofs.transport.transport_ok.Goals.{then-payload-length-via-then-payload-length, then-payload-length-via-else-payload-length+then-read_word-eq0}

pub returns-then-datagram : goal.returns-then-datagram
returns-then-datagram c =
    let d = c.in_ok-datagram.datagram in
    cut_read c.args.frame.now d.header.now d.payload.now d.is_cut c.in_ok-datagram.ensures c.if-datagram.true

pub returns-then-is_some : goal.returns-then-is_some
returns-then-is_some c =
    let d = c.in_ok-datagram.datagram in
    tcp_read c.args.frame.now d.header.now d.payload.now d.is_cut c.is_tcp_right.result c.length.result c.in_ok-datagram.ensures c.if-datagram.false c.length.ensures (sym c.is_some.ensures ∙ c.if-is_some.true) c.is_tcp_right.ensures

pub returns-then-payload-length : goal.returns-then-payload-length
returns-then-payload-length c =
    let d = c.in_ok-datagram.datagram in
    elim c.then-payload-length.branch [
      | then-payload-length-via-then-payload-length w ↦ udp_long_read c.args.frame.now d.header.now d.payload.now d.is_cut c.length.result c.length-2.result c.in_ok-length.field-0 c.read_word-length.result c.in_ok-datagram.ensures
          c.length.ensures (sym c.is_some.ensures ∙ c.if-is_some.false) c.length-2.ensures c.in_ok-length.was c.read_word-length.ensures w.if-payload-length.true
      | then-payload-length-via-else-payload-length+then-read_word-eq0 w ↦ udp_plain_read c.args.frame.now d.header.now d.payload.now d.is_cut c.length.result c.length-2.result c.in_ok-length.field-0 w.read_word.result c.in_ok-datagram.ensures
          c.length.ensures (sym c.is_some.ensures ∙ c.if-is_some.false) c.length-2.ensures c.in_ok-length.was w.read_word.ensures w.if-read_word-eq0.true
    ]

pub returns : goal.returns
returns c =
    let d = c.in_ok-datagram.datagram in
    udp_read c.args.frame.now d.header.now d.payload.now d.is_cut c.is_udp_right.result c.length.result c.length-2.result c.in_ok-length.field-0 c.read_word-length.result c.read_word.result c.in_ok-datagram.ensures c.if-datagram.false
    c.length.ensures (sym c.is_some.ensures ∙ c.if-is_some.false) c.length-2.ensures c.in_ok-length.was c.read_word-length.ensures c.read_word.ensures c.if-payload-length.false c.if-read_word-eq0.false c.is_udp_right.ensures
