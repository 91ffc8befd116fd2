use Rattle.std.proofs.Common.{◌≡◌, ◌++◌, drop, map}
use Rattle.std.specs.Prelude.{option_map}
use Rattle.tcp_udp.specs.MatchView.{match_view}
use Rattle.chain_types.specs.GroupView.{group_view}
use Rattle.chain_spec.specs.ChainSet as chains
use Rattle.chain_run.proofs.groups.group_matches.Given as goal

abbrev pub invariant-loop-group : goal.invariant-loop-group
invariant-loop-group l = map (option_map match_view) l.matches.items ++ map (λ (x : chains.Group). x.wanted) (map group_view (drop l.group-index l.groups)) ≡ map (λ (x : chains.Group). x.wanted) (map group_view l.groups)
