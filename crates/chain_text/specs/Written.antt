-- What a text writes.
use Rattle.std.specs.Prelude.{ℕ, List, length, Option, Some, None, if◌then◌else◌, ◌==◌}
use Rattle.brick_spec.specs.Match as match
use Rattle.chain_spec.specs.ChainText.{◌>>=◌}
use Rattle.chain_text.specs.declared.any_prefix.AnyPrefix.{AnyPrefix}

abbrev pub any_prefix_view : AnyPrefix → match.Prefix
any_prefix_view p = record { addr = p.addr; bits = p.bits }

-- the bytes, where they are six
abbrev pub six_of : Option (List ℕ) → Option (List ℕ)
six_of pairs = pairs >>= λ bytes. if length bytes == 6 then Some bytes else None
