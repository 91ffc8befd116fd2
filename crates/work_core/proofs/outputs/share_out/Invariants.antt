use Rattle.std.proofs.Common.{◌≡◌, take, length}
use Rattle.work_core.specs.Outputs.{item_lists, shared_out}
use Rattle.work_core.proofs.outputs.share_out.Given as goal

abbrev pub invariant-loop-group : goal.invariant-loop-group
invariant-loop-group l = (l.at ≡ length l.yielded) × (length l.lists.items ≡ length l.fn.lists.items) × (item_lists l.lists.items ≡ shared_out (take l.at l.outputs) l.yielded (item_lists l.fn.lists.items))
