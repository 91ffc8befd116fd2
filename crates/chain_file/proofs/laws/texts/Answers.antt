use Rattle.std.proofs.Common.{refl}
use Rattle.std.specs.Fmt.{digits}
use Rattle.chain_spec.specs.ChainFault.{route_words, fault_words}
use Rattle.chain_file.proofs.laws.texts.Goals as goal

pub returns : goal.returns
unfolding digits route_words fault_words
returns c = record {
  not_toml = refl;
  missing = refl;
  unknown = refl;
  range = refl;
  name = refl;
  second_window = refl;
  same_prefix = refl;
  host_bits = refl;
  too_many_tenants = refl;
  collides = refl;
  too_long = refl;
}
