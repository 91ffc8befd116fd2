use Rattle.std.proofs.Common.{◌≡◌, drop}
use Rattle.brick_spec.specs.Hash.{hash_from, hash_of}
use Rattle.brick_base.proofs.hashing.fnv1a.Given as goal

abbrev pub invariant-loop-byte : goal.invariant-loop-byte
invariant-loop-byte l = hash_from l.hash (drop l.byte-index l.bytes) ≡ hash_of l.bytes
