-- What a contract sees of a firewall's rules.
use Rattle.std.specs.Prelude.{List}
use Rattle.brick_spec.specs.Firewall as spec

-- the rules in their order, and what is said where none is met
pub record RulesModel : Type 0 where
  pub rows : List spec.Rule
  pub default : spec.Verdict
