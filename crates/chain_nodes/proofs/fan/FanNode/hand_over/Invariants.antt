use Rattle.std.proofs.Common.{◌≡◌, ◌++◌, map}
use Rattle.brick_spec.specs.GroupOutput.{in_key_order}
use Rattle.flow_work.specs.Node.{fan_results}
use Rattle.work_core.specs.Result.{items_view}
use Rattle.chain_nodes.proofs.fan.FanNode.hand_over.Given as goal

abbrev pub invariant-loop-place : goal.invariant-loop-place
invariant-loop-place g l = map items_view l.lists.items ≡ map items_view l.fn.lists.items ++ map in_key_order (fan_results g.N.Node.results l.yielded)
