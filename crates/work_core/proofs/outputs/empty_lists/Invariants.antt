use Rattle.std.proofs.Common.{◌≡◌, map, List, []}
use Rattle.std.specs.List.{range_with_len}
use Rattle.pcap_io.specs.declared.item.Item.{Item}
use Rattle.work_core.specs.Outputs.{item_lists}
use Rattle.work_core.proofs.outputs.empty_lists.Given as goal

abbrev pub invariant-each : goal.invariant-each
invariant-each l = item_lists l.lists.items ≡ map (λ o. let none : List Item = [] in none) (range_with_len 0 l.done)
