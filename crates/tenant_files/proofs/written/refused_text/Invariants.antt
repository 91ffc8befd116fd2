use Rattle.std.proofs.Common.{◌≡◌, ◌++◌, flat_map, drop, string_bytes, decimal, codes}
use Rattle.tenant_spec.specs.Tenant.{refused_text}
use Rattle.tenant_files.proofs.written.refused_text.Given as goal

-- what is there and the numbers from here on make the whole
abbrev pub invariant-loop-number : goal.invariant-loop-number
invariant-loop-number l = string_bytes l.text ++ refused_text (drop l.number-index l.numbers) ≡ refused_text l.numbers
