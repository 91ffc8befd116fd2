-- Which addresses and numbers of bits are a prefix.
use Rattle.std.specs.Prelude.{◌≡◌, ℕ, ◌-◌, ◌%◌, ◌^◌, ◌≤◌}

-- at most 32 bits are fixed, and the others are 0
abbrev pub IsAddressPrefix : ℕ → ℕ → Type 0
IsAddressPrefix addr bits = (bits ≤ 32) × (addr % 2 ^ (32 - bits) ≡ 0)
