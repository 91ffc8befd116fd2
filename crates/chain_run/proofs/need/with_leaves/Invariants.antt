use Rattle.std.proofs.Common.{take, map}
use Rattle.std.specs.List.{AllByRecursion}
use Rattle.chain_types.specs.BelowView.{leaf_view}
use Rattle.chain_run.specs.Sound.{LeafFits, IsMore}
use Rattle.chain_run.proofs.need.with_leaves.Given as goal

abbrev pub invariant-loop-leaf : goal.invariant-loop-leaf
invariant-loop-leaf l = IsMore l.fn.need.count l.fn.need.bytes l.all.count l.all.bytes × AllByRecursion (LeafFits l.all.count l.all.bytes) (map leaf_view (take l.leaf-index l.leaves))
