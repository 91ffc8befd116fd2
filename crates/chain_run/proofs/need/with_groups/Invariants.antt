use Rattle.std.proofs.Common.{take, map}
use Rattle.std.specs.List.{AllByRecursion}
use Rattle.chain_types.specs.GroupView.{group_view}
use Rattle.chain_run.specs.Sound.{GroupFits, IsMore}
use Rattle.chain_run.proofs.need.with_groups.Given as goal

abbrev pub invariant-loop-group : goal.invariant-loop-group
invariant-loop-group l = IsMore l.fn.need.count l.fn.need.bytes l.all.count l.all.bytes × AllByRecursion (GroupFits l.all.count l.all.bytes) (map group_view (take l.group-index l.groups))
