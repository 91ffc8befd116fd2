-- The rows inside the parts of a range.
use Rattle.std.specs.Prelude.{ℕ, ◌≡◌, ◌<◌, List, [], Option, Some, None, length, get_or}
use Rattle.std.specs.List.{slice_get}
use Rattle.std.specs.Global.{Vec}

-- what is in a list, where there is one
abbrev pub items_of : Option (Vec ℕ) → List ℕ
items_of None = []
items_of (Some list) = list.items

-- the rows of a list, by its place among the lists
abbrev pub list_at : List (Vec ℕ) → Option ℕ → List ℕ
list_at lists None = []
list_at lists (Some n) = items_of (slice_get lists n)

-- the rows inside a part
abbrev pub rows_in : List (List ℕ) → ℕ → List ℕ
rows_in inside part = get_or inside part []

-- there is a place for each part, each is that of a list, and no two parts have one
pub record ArePlaces (places : List (Option ℕ)) (lists : List (Vec ℕ)) : Type 0 where
  pub long : length places ≡ 256
  pub within : (part n : ℕ) → get_or places part None ≡ Some n → n < length lists
  pub apart : (part other n : ℕ) → get_or places part None ≡ Some n → get_or places other None ≡ Some n → part ≡ other
