-- Results, one behind another: the lists of each leaf group end to end, and the counts added up.
use Rattle.std.specs.Prelude.{◌≡◌, ℕ, ◌+◌, ◌<◌, ◌≤◌, zero, suc, List, [], ◌∷◌, ◌++◌, map, flat_map, length, max, min}
use Rattle.std.specs.Prelude.{slice_index}
use Rattle.std.specs.List.{AllByRecursion, slice_index_or, sum_by}
use Rattle.pcap_io.specs.declared.item.Item.{Item}
use Rattle.work_core.specs.Outputs.{item_lists}
use Rattle.work_core.specs.Result.{result_view}
use Rattle.work_core.specs.declared.result.WorkResult.{WorkResult}
use Rattle.work_parts.specs.Merged.{merged}
use Rattle.work_parts.specs.declared.whole.Whole.{Whole}

-- list by list, those of the second behind those of the first; where one has more lists these stay
abbrev pub side_by_side : {X : Type 0} → List (List X) → List (List X) → List (List X)
side_by_side [] ys = ys
side_by_side (x ∷ xs) [] = x ∷ xs
side_by_side (x ∷ xs) (y ∷ ys) = (x ++ y) ∷ side_by_side xs ys

-- these behind those of the list at a place, or as one list more
abbrev pub behind_at : {X : Type 0} → ℕ → List X → List (List X) → List (List X)
behind_at place items [] = items ∷ []
behind_at zero items (x ∷ xs) = (x ++ items) ∷ xs
behind_at (suc place) items (x ∷ xs) = x ∷ behind_at place items xs

-- nine counts and nine more, each up to 4,294,967,295
abbrev pub AreSums : List ℕ → List ℕ → List ℕ → Type 0
AreSums old more new = (k : ℕ) → k < 9 → slice_index new k ≡ min 4294967295 (slice_index old k + slice_index more k)

-- the list of a leaf group
abbrev pub list_at : ℕ → WorkResult → List Item
list_at g part = slice_index_or part.groups.items g []

-- how many lists the result has that has the most
abbrev pub most_lists : List WorkResult → ℕ
most_lists [] = 0
most_lists (part ∷ parts) = max (length part.groups.items) (most_lists parts)

-- it is these results, one behind another
pub record IsWholeOf (parts : List WorkResult) (whole : Whole) : Type 0 where
  pub lists : (g : ℕ) → slice_index_or (item_lists whole.groups.items) g [] ≡ flat_map (list_at g) parts
  pub long : length (item_lists whole.groups.items) ≡ most_lists parts
  pub drops : (k : ℕ) → k < 9
      → slice_index whole.drops k ≡ min 4294967295 (sum_by (λ (part : WorkResult). slice_index part.drops k) parts)

-- it is these results as one, where there is one at least, and each has so many leaf groups
abbrev pub IsMergedOf : List WorkResult → WorkResult → Type 0
IsMergedOf parts r = (leaves : ℕ) → 1 ≤ length parts
    → AllByRecursion (λ (part : WorkResult). length part.groups.items ≡ leaves) parts
    → result_view r ≡ merged leaves (map result_view parts)
