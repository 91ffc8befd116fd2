use Rattle.std.proofs.Common.{◌≡◌, drop}
use Rattle.chain_spec.specs.ChainSet.{is_among}
use Rattle.chain_file.proofs.outputs.is_among.Given as goal

abbrev pub invariant-loop-n : goal.invariant-loop-n
invariant-loop-n l = is_among l.name (drop l.n-index l.names) ≡ is_among l.name l.names
