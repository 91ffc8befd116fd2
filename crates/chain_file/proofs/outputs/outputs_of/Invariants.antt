use Rattle.std.proofs.Common.{◌≡◌, drop, map, flat_map}
use Rattle.chain_spec.specs.ChainSet.{distinct_after, outputs_below, outputs_of}
use Rattle.chain_file.specs.View.{named_view}
use Rattle.chain_file.proofs.outputs.outputs_of.Given as goal

abbrev pub invariant-loop-group : goal.invariant-loop-group
invariant-loop-group l = distinct_after l.outputs.items (flat_map (λ g. outputs_below g.below) (map named_view (drop l.group-index l.groups))) ≡ outputs_of (map named_view l.groups)
