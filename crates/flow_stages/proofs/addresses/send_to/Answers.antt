use Rattle.std.proofs.Common.{rules}
use Rattle.flow_stages.proofs.Addressing.{sent_read, sent_tuple}
use Rattle.flow_stages.proofs.addresses.send_to.Goals as goal

pub returns-clause-read : goal.returns-clause-read
returns-clause-read c = sent_read c.args.packet.now c.args.mac c.frame_mut.result.now c.set_ethernet_destination.new.header c.requires (search rules) c.frame_mut.ensures.value c.set_ethernet_destination.ensures

pub returns-clause-tuple : goal.returns-clause-tuple
returns-clause-tuple c = sent_tuple c.args.packet.now c.args.mac c.frame_mut.result.now c.set_ethernet_destination.new.header c.requires (search rules) c.frame_mut.ensures.value c.set_ethernet_destination.ensures
