use Rattle.std.proofs.Common.{◌≡◌, ◌-◌, ◌^◌, drop}
use Rattle.brick_spec.specs.Decimal as spec
use Rattle.command_line.proofs.generated.generated_number.Given as goal

abbrev pub invariant-loop-character : goal.invariant-loop-character
invariant-loop-character l = spec.number_after (2 ^ 64 - 1) l.number (drop l.character-index l.bytes) ≡ spec.number_after (2 ^ 64 - 1) 0 l.fn.text
