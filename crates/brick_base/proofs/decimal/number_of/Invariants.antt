use Rattle.std.proofs.Common.{◌≡◌, ◌≤◌, drop}
use Rattle.brick_spec.specs.Decimal as spec
use Rattle.brick_base.proofs.decimal.number_of.Given as goal

abbrev pub invariant-loop-character : goal.invariant-loop-character
invariant-loop-character l = record {
  value : spec.number_after l.most l.number (drop l.character-index l.bytes) ≡ spec.number_after l.most 0 l.fn.text;
  bound : l.number ≤ l.most;
}
