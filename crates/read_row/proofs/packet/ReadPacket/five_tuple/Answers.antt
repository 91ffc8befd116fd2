use Rattle.read_row.proofs.Closing.{tuple_read}
use Rattle.read_row.proofs.packet.ReadPacket.five_tuple.Goals as goal

pub returns-in-None-clause-value : goal.returns-in-None-clause-value
returns-in-None-clause-value c =
    tuple_read c.args.self.now.packet c.header.result.now c.payload.result.now c.of_layer-tuple.result c.requires c.header.ensures.value c.payload.ensures.value c.of_layer-tuple.ensures
