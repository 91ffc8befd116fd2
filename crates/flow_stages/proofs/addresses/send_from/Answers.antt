use Rattle.std.proofs.Common.{rules}
use Rattle.flow_stages.proofs.Addressing.{from_read, from_tuple}
use Rattle.flow_stages.proofs.addresses.send_from.Goals as goal

pub returns-clause-read : goal.returns-clause-read
returns-clause-read c = from_read c.args.packet.now c.args.mac c.frame_mut.result.now c.set_ethernet_source.new.header c.requires (search rules) c.frame_mut.ensures.value c.set_ethernet_source.ensures

pub returns-clause-tuple : goal.returns-clause-tuple
returns-clause-tuple c = from_tuple c.args.packet.now c.args.mac c.frame_mut.result.now c.set_ethernet_source.new.header c.requires (search rules) c.frame_mut.ensures.value c.set_ethernet_source.ensures
