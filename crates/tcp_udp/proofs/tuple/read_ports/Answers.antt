use Rattle.std.proofs.Common.{◌∙◌, sym}
use Rattle.tcp_udp.proofs.Reading.{ports_by_tcp, ports_by_udp}
use Rattle.tcp_udp.proofs.tuple.read_ports.Goals as goal
use Rattle.tcp_udp.proofs.tuple.read_ports.Goals.{then-is_some, else-is_some}

pub returns-then-is_some-2 : goal.returns-then-is_some-2
returns-then-is_some-2 c = λ frame l h p.
    elim c.if-is_some.branch [
      | then-is_some w ↦ ports_by_tcp frame c.args.header.now c.args.payload.now l c.tcp_length.result c.source_port.result c.destination_port.result h p c.tcp_length.ensures
          (sym c.is_some.ensures ∙ w.if-is_some.true) c.source_port.ensures c.destination_port.ensures
      | else-is_some w ↦ ports_by_udp frame c.args.header.now c.args.payload.now l c.tcp_length.result w.udp_length.result c.source_port.result c.destination_port.result h p c.tcp_length.ensures
          (sym c.is_some.ensures ∙ w.if-is_some.false) w.udp_length.ensures (sym w.is_some-else-is_some.ensures ∙ (sym w.value-is ∙ c.if-is_some-2.true)) c.source_port.ensures c.destination_port.ensures
    ]
