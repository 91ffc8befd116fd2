use Rattle.std.proofs.Common.{◌≡◌, ◌++◌, drop, map}
use Rattle.chain_file.specs.NamedView.{leaf_names}
use Rattle.chain_file.proofs.leaves.names_of.Given as goal

abbrev pub invariant-loop-leaf : goal.invariant-loop-leaf
invariant-loop-leaf l = map (λ x. x.now) l.names.items ++ leaf_names (drop l.leaf-index l.leaves) ≡ leaf_names l.leaves
