use Rattle.std.proofs.Common.{◌≡◌, ◌++◌, drop, map}
use Rattle.std.specs.Prelude.{option_map}
use Rattle.tcp_udp.specs.MatchView.{match_view}
use Rattle.chain_types.specs.BelowView.{leaf_view}
use Rattle.chain_spec.specs.ChainSet as chains
use Rattle.chain_run.proofs.below.leaf_matches.Given as goal

abbrev pub invariant-loop-leaf : goal.invariant-loop-leaf
invariant-loop-leaf l = map (option_map match_view) l.matches.items ++ map (λ (x : chains.Leaf). x.wanted) (map leaf_view (drop l.leaf-index l.leaves)) ≡ map (λ (x : chains.Leaf). x.wanted) (map leaf_view l.leaves)
