use Rattle.std.proofs.Common.{◌≡◌, map}
use Rattle.brick_spec.specs.GroupOutput.{in_key_order}
use Rattle.work_core.specs.Result.{items_view}
use Rattle.work_core.specs.Outputs.{item_lists}
use Rattle.work_parts.proofs.whole.sort_groups.Given as goal

abbrev pub invariant-loop-list : goal.invariant-loop-list
invariant-loop-list l = map items_view l.all.items ≡ map (λ items. in_key_order (items_view items)) (item_lists l.yielded)
