-- Items with other Ethernet addresses. The Ethernet II header (RFC 894) is the first 14 bytes of a frame.
use Rattle.std.specs.Prelude.{ℕ, List, Result}
use Rattle.brick_spec.specs.Edit.{with_ethernet_destination, with_ethernet_source}
use Rattle.brick_spec.specs.FlowStage.{FlowItem, FlowStage, alone}
use Rattle.brick_spec.specs.Item.{Item}
use Rattle.brick_spec.specs.Stage.{ItemStage, Reason}

abbrev pub sent_to : List ℕ → Item → Item
sent_to mac i = record i { frame = with_ethernet_destination i.frame mac }

abbrev pub sent_from : List ℕ → Item → Item
sent_from mac i = record i { frame = with_ethernet_source i.frame mac }

-- a stage on the items of a flow that does not read the flow
abbrev pub by_item : ItemStage → FlowItem → Result Item Reason
by_item s x = s x.item

abbrev pub item_stage : ItemStage → FlowStage
item_stage s = alone (by_item s)
