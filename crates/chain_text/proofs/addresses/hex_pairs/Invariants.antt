use Rattle.std.proofs.Common.{◌≡◌, ◌++◌, Some, drop, map}
use Rattle.chain_spec.specs.ChainText as spec
use Rattle.chain_spec.specs.ChainText.{◌>>=◌}
use Rattle.chain_text.proofs.addresses.hex_pairs.Given as goal

-- the bytes of the pairs that are left, behind those that are done
abbrev pub invariant-loop-part : goal.invariant-loop-part
invariant-loop-part l = (spec.hex_pairs (map (λ x. x.now) (drop l.part-index l.parts)) >>= λ bytes. Some (l.bytes.items ++ bytes)) ≡ spec.hex_pairs (map (λ x. x.now) l.parts)
