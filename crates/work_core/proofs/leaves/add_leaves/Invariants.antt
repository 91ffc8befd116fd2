use Rattle.std.proofs.Common.{◌≡◌, ◌++◌, drop, map}
use Rattle.chain_types.specs.BelowView.{leaf_view}
use Rattle.work_core.specs.Outputs.{places_of}
use Rattle.work_core.proofs.leaves.add_leaves.Given as goal

abbrev pub invariant-loop-leaf : goal.invariant-loop-leaf
invariant-loop-leaf l = l.outputs.items ++ places_of (map leaf_view (drop l.leaf-index l.leaves)) ≡ l.fn.outputs.items ++ places_of (map leaf_view l.leaves)
