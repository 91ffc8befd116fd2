use Rattle.std.proofs.Common.{◌≡◌, length}
use Rattle.work_core.specs.Outputs.{item_lists}
use Rattle.work_parts.specs.Wholes.{side_by_side}
use Rattle.work_parts.proofs.whole.append_groups.Given as goal

abbrev pub invariant-loop-group : goal.invariant-loop-group
invariant-loop-group l = (l.place ≡ length l.yielded) × (item_lists l.lists.items ≡ side_by_side (item_lists l.fn.lists.items) l.yielded)
