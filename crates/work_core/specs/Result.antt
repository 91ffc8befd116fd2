-- What a contract sees of the results of a tenant's work.
use Rattle.std.specs.Prelude.{List, map}
use Rattle.brick_spec.specs.Item.{Item}
use Rattle.flow_spec.specs.Answer.{Answer}
use Rattle.pcap_io.specs.View.{item_view}
use Rattle.pcap_io.specs.declared.item.Item.{Item as ItemInCode}
use Rattle.work_core.specs.declared.result.WorkResult.{WorkResult}

abbrev pub items_view : List ItemInCode → List Item
items_view items = map item_view items

abbrev pub result_view : WorkResult → Answer
result_view r = record { groups = map items_view r.groups.items; drops = r.drops }
