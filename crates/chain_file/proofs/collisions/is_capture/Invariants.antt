use Rattle.std.proofs.Common.{◌≡◌, drop}
use Rattle.chain_spec.specs.ChainSet.{is_among}
use Rattle.chain_file.specs.View.{chain_captures}
use Rattle.chain_file.proofs.collisions.is_capture.Given as goal

abbrev pub invariant-loop-chain : goal.invariant-loop-chain
invariant-loop-chain l = is_among l.file (chain_captures (drop l.chain-index l.chains)) ≡ is_among l.file (chain_captures l.chains)
