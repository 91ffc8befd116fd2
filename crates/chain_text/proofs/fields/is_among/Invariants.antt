use Rattle.std.proofs.Common.{◌≡◌, drop, map}
use Rattle.chain_spec.specs.ChainSet.{is_among}
use Rattle.chain_text.proofs.fields.is_among.Given as goal

abbrev pub invariant-loop-k : goal.invariant-loop-k
invariant-loop-k l = is_among l.key (map (λ r. r.now) (drop l.k-index l.row)) ≡ is_among l.key (map (λ r. r.now) l.row)
