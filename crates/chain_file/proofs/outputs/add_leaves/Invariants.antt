use Rattle.std.proofs.Common.{◌≡◌, drop, map}
use Rattle.chain_spec.specs.ChainSet.{distinct_after}
use Rattle.chain_file.specs.NamedView.{named_leaves_view}
use Rattle.chain_file.proofs.outputs.add_leaves.Given as goal

abbrev pub invariant-loop-leaf : goal.invariant-loop-leaf
invariant-loop-leaf l = distinct_after l.names.items (map (λ x. x.into) (named_leaves_view (drop l.leaf-index l.leaves))) ≡ distinct_after l.fn.names.items (map (λ x. x.into) (named_leaves_view l.leaves))
