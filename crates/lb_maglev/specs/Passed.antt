-- Which preferred places are known to be taken.
use Rattle.std.specs.Prelude.{◌≡◌, ℕ, ◌<◌, false}
use Rattle.brick_spec.specs.Balance.{Places, is_free, preferred_place}

-- the first preferred places, `next` of them, are taken
abbrev pub ArePassed : Places → ℕ → ℕ → ℕ → Type 0
ArePassed places offset skip next = (j : ℕ) → j < next → is_free places (preferred_place offset skip j) ≡ false
