use Rattle.std.proofs.Common.{◌≡◌, [], ◌∷◌, ◌++◌, drop, map}
use Rattle.chain_spec.specs.ChainSet.{output_file, refused_file, file_names}
use Rattle.chain_spec.specs.ChainWalk.{first_taken}
use Rattle.chain_types.specs.View.{chain_view}
use Rattle.chain_file.specs.View.{chain_captures}
use Rattle.chain_file.proofs.collisions.taken_of.Given as goal

abbrev pub invariant-loop-output : goal.invariant-loop-output
invariant-loop-output l =
    first_taken (l.own ∷ chain_captures l.chains) (map (output_file l.out l.chain.name) (drop l.output-index l.output-items) ++ refused_file l.out l.chain.name ∷ [])
    ≡ first_taken (l.own ∷ chain_captures l.chains) (file_names l.out (chain_view l.chain))
