use Rattle.std.proofs.Common.{◌≡◌, map}
use Rattle.chain_spec.specs.ChainSet.{leaf_with}
use Rattle.chain_types.specs.BelowView.{leaf_view}
use Rattle.chain_file.specs.NamedView.{named_leaves_view}
use Rattle.chain_file.proofs.outputs.leaves_with.Given as goal

abbrev pub invariant-loop-leaf : goal.invariant-loop-leaf
invariant-loop-leaf l = map leaf_view l.leaves.items ≡ map (leaf_with l.outputs) (named_leaves_view l.yielded)
