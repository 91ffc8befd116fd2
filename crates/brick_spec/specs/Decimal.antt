-- Decimal numbers in a text: ASCII digits without sign, of a number that is at most `most`.
use Rattle.std.specs.Prelude.{ℕ, ◌+◌, ◌*◌, ◌-◌, ◌&&◌, ◌==◌, Bool, not, List, [], ◌∷◌, length, slice_index, Option, Some}
use Rattle.std.specs.Prelude.{None, if◌then◌else◌, nat_lt, nat_le}

-- what is read next from a value, where there is one
infixl 10 ◌>>=◌
abbrev pub ◌>>=◌ : {A B : Type 0} → Option A → (A → Option B) → Option B
(Some x) >>= f = f x
None >>= f = None

abbrev pub is_digit : ℕ → Bool
is_digit c = nat_le 48 c && nat_le c 57

-- the number with one more digit, where that is one and the number is at most `most`
abbrev pub with_digit : ℕ → ℕ → ℕ → Option ℕ
with_digit most n c = if is_digit c && nat_le (n * 10 + (c - 48)) most then Some (n * 10 + (c - 48)) else None

-- the number of the digits behind those that spell n
abbrev pub number_after : ℕ → ℕ → List ℕ → Option ℕ
number_after most n [] = Some n
number_after most n (c ∷ cs) = with_digit most n c >>= λ m. number_after most m cs

abbrev pub has_leading_zero : List ℕ → Bool
has_leading_zero text = nat_lt 1 (length text) && slice_index text 0 == 48

-- the number that one digit or more spell, of which the first is 0 only where it is the only one
unfoldable pub number_of : ℕ → List ℕ → Option ℕ
number_of most text = if nat_lt 0 (length text) && not (has_leading_zero text) then number_after most 0 text else None
