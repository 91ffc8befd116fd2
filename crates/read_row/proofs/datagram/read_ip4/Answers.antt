use Rattle.std.proofs.Common.{ap, ◌∙◌}
use Rattle.brick_spec.specs.Layer.{ethernet_length}
use Rattle.packet_owner.specs.Packet.{deparsed}
use Rattle.packet_owner.proofs.Layers.{back_parsed}
use Rattle.read_row.proofs.Datagrams.{both_read, without_ip4}
use Rattle.read_row.proofs.datagram.read_ip4.Goals as goal

pub returns-in-Err-parse-clause-err : goal.returns-in-Err-parse-clause-err
returns-in-Err-parse-clause-err c = (
  c.deparse.ensures ∙ (ap deparsed c.in-Err-parse.ensures.err ∙ back_parsed (λ _ rest. ethernet_length rest) (λ _ room. room) c.args.packet c.in-Ok.eth c.in-Ok.ensures.ok),
  without_ip4 c.args.packet c.in-Ok.eth c.in-Ok.ensures.layers c.in-Ok.ensures.ok c.in-Err-parse.ensures.absent,
)

pub returns-in-Ok-parse-clause-ok : goal.returns-in-Ok-parse-clause-ok
returns-in-Ok-parse-clause-ok c = both_read c.args.packet c.in-Ok.eth c.in-Ok-parse.ip4 c.in-Ok.ensures.layers c.in-Ok.ensures.ok c.in-Ok-parse.ensures.ok
