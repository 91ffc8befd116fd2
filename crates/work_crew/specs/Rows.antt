-- Rows of seats and works, and columns.
use Rattle.std.specs.Prelude.{ℕ, ◌≡◌, ◌<◌, ◌≤◌, List, [], ◌∷◌, ◌++◌, length, Some, slice_get, vec_len, vec_capacity}
use Rattle.work_crew.specs.declared.row.Row.{Row}

-- said of each member
abbrev pub Each : {A : Type 0} → (A → Type 0) → List A → Type 0
Each {A = A} P xs = (t : ℕ) (x : A) → slice_get xs t ≡ Some x → P x

-- it has so many seats and works, and room for so many in all
pub record HasPlaces {S W : Type 0} (count room : ℕ) (row : Row S W) : Type 0 where
  pub seats : length row.seats.items ≡ count
  pub works : length row.works.items ≡ count
  pub seats_room : room ≤ vec_capacity row.seats
  pub works_room : room ≤ vec_capacity row.works

-- there is room for one more
pub record HasRoom {S W : Type 0} (row : Row S W) : Type 0 where
  pub seats : vec_len row.seats < vec_capacity row.seats
  pub works : vec_len row.works < vec_capacity row.works

-- a seat and a work stand behind those that were there, in room that is no less
pub record HasTaken {S W : Type 0} (seat : S) (work : W) (old new : Row S W) : Type 0 where
  pub seats : new.seats.items ≡ old.seats.items ++ seat ∷ []
  pub works : new.works.items ≡ old.works.items ++ work ∷ []
  pub seats_room : vec_capacity old.seats ≤ vec_capacity new.seats
  pub works_room : vec_capacity old.works ≤ vec_capacity new.works

-- all that was in it was taken out, and the room stays
pub record IsEmptied {S W : Type 0} (old new : Row S W) : Type 0 where
  pub seats : new.seats.items ≡ []
  pub works : new.works.items ≡ []
  pub seats_room : vec_capacity old.seats ≤ vec_capacity new.seats
  pub works_room : vec_capacity old.works ≤ vec_capacity new.works

-- What stands at place w of row t stands at place t of column w.
abbrev pub IsTurned : {S W : Type 0} → List (Row S W) → List (Row S W) → Type 0
IsTurned {S = S} {W = W} rows columns =
    (t w : ℕ) (r c : Row S W) → slice_get rows t ≡ Some r → slice_get columns w ≡ Some c
    → (slice_get r.seats.items w ≡ slice_get c.seats.items t) × (slice_get r.works.items w ≡ slice_get c.works.items t)
