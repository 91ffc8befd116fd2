-- What the lengths that a protocol layer gives keep to.
use Rattle.std.specs.Prelude.{ℕ, ◌≤◌, Option, Some, None}

-- a length that is given is at least the least one, and at most as many bytes as are there
abbrev pub IsLengthWithin : ℕ → Option ℕ → ℕ → Type 0
IsLengthWithin least None there = Unit {0}
IsLengthWithin least (Some n) there = (least ≤ n) × (n ≤ there)
