-- One ring of n cells from the word b on. Its entries are numbered from 0, and those before h were taken.
use Rattle.std.specs.Prelude.{◌≡◌, ◌≢◌, ℕ, ◌+◌, ◌*◌, ◌%◌, ◌<◌, ◌≤◌, Bool, List, [], ◌∷◌, ◌++◌, map, cond, length}
use Rattle.std.specs.Prelude.{slice_index}

-- the word of a slot and a number
abbrev pub entry_word : ℕ × ℕ → ℕ
entry_word p = 2048 * p.1 + p.0 + 1

abbrev pub END : ℕ
END = 2047

abbrev pub end_of : Bool → List ℕ
end_of put = cond put (END ∷ []) []

-- the entries' words, and END last
abbrev pub entries_of : List (ℕ × ℕ) → Bool → List ℕ
entries_of sent put = map entry_word sent ++ end_of put

pub record Cells (n : ℕ) (words : List ℕ) (b : ℕ) (entries : List ℕ) (h : ℕ) : Type 0 where
  pub here : (t : ℕ) → h ≤ t → t < length entries → slice_index words (b + t % n) ≡ slice_index entries t
  pub empty : (c : ℕ) → c < n → ((t : ℕ) → h ≤ t → t < length entries → t % n ≢ c) → slice_index words (b + c) ≡ 0
