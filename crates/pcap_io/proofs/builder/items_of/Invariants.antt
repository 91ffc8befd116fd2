use Rattle.std.proofs.Common.{◌≡◌, take}
use Rattle.std.specs.Arc.{arc_value}
use Rattle.pcap_io.specs.Builder.{items_of_heads}
use Rattle.pcap_io.proofs.builder.items_of.Given as goal

abbrev pub invariant-loop-head : goal.invariant-loop-head
invariant-loop-head l = l.items.items ≡ items_of_heads (arc_value l.store).items (take l.head-index l.heads)
