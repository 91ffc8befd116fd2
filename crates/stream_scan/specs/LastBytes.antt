-- The last of some bytes.
use Rattle.std.specs.Prelude.{ℕ, ◌-◌, List, length, drop}

-- the last n, or all where they are fewer
abbrev pub last_bytes : ℕ → List ℕ → List ℕ
last_bytes n bytes = drop (length bytes - n) bytes
