use Rattle.std.proofs.Common.{◌≡◌, ◌∷◌, drop, map}
use Rattle.chain_spec.specs.ChainSet.{run_files}
use Rattle.chain_spec.specs.ChainWalk.{first_taken}
use Rattle.chain_types.specs.View.{chain_view}
use Rattle.chain_file.specs.View.{chain_captures}
use Rattle.chain_file.proofs.collisions.first_taken.Given as goal

abbrev pub invariant-loop-chain : goal.invariant-loop-chain
invariant-loop-chain l =
    first_taken (l.own ∷ chain_captures l.chains) (run_files l.out (map chain_view (drop l.chain-index l.chains)))
    ≡ first_taken (l.own ∷ chain_captures l.chains) (run_files l.out (map chain_view l.chains))
