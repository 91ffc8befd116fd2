use Rattle.std.proofs.Common.{◌≡◌, ◌++◌, drop, map, flat_map}
use Rattle.chain_spec.specs.ChainSet as spec
use Rattle.chain_types.specs.GroupView.{group_view}
use Rattle.chain_types.specs.View.{chain_view}
use Rattle.work_core.specs.Outputs.{places_of}
use Rattle.work_core.proofs.leaves.leaf_outputs.Given as goal

abbrev pub invariant-loop-group : goal.invariant-loop-group
invariant-loop-group l = l.outputs.items ++ places_of (flat_map (λ g. spec.leaves_in g g.below) (map group_view (drop l.group-index l.group-items))) ≡ spec.leaf_outputs (chain_view l.chain)
