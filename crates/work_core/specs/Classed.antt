-- Packets as items with their classes.
use Rattle.brick_base.specs.Flow.{class_view}
use Rattle.packet_owner.specs.Packet.{packet_item}
use Rattle.batch_ops.specs.declared.batch.Work.{Work}
use Rattle.flow_spec.specs.Answer.{ClassedItem}

abbrev pub classed : Work → ClassedItem
classed w = record { class = class_view w.class; item = packet_item w.packet }
