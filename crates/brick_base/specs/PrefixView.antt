-- A prefix of the code as one of the definitions.
use Rattle.brick_spec.specs.Match as match
use Rattle.brick_base.specs.declared.addresses.Prefix.{Prefix}

abbrev pub prefix_view : Prefix → match.Prefix
prefix_view p = record { addr = p.addr; bits = p.bits }
