-- Started lanes whose seats and works are given to the workers.
use Rattle.std.proofs.Common.{◌≡◌, ℕ, zero, suc, List, [], ◌∷◌, map, length, get_or, sym, ap, ◌∙◌, subst, arith, Some}
use Rattle.std.specs.Prelude.{slice_get, All}
use Rattle.std.specs.Global.{Vec}
use Rattle.std.proofs.lemmas.List.{length-map}
use Rattle.std.proofs.lemmas.Option.{slice_get_within, slice_get-get_or, get_or_from_slice_get}
use Rattle.lane_core.specs.declared.kit.Started.{Started}
use Rattle.work_crew.specs.Rows.{Each, HasPlaces, IsTurned}
use Rattle.work_crew.specs.Crews.{IsCrewOf, IsSetOut}
use Rattle.work_crew.specs.declared.row.Row.{Row}
use Rattle.work_crew.specs.declared.sides.IngestSide.{IngestSide}
use Rattle.work_crew.specs.declared.crew.Crew.{Crew}
use Rattle.work_crew.proofs.Members.{some_is}
use Rattle.work_crew.proofs.Rows.{there_at}

first_same : {A : Type 0} {a b : A} {xs ys : List A} → a ∷ xs ≡ b ∷ ys → a ≡ b
first_same e = cc

rest_same : {A : Type 0} {a b : A} {xs ys : List A} → a ∷ xs ≡ b ∷ ys → xs ≡ ys
rest_same e = cc

-- members at one place of two lists of which the same is told
pub mapped_at : {A B C : Type 0} (f : A → C) (g : B → C) (xs : List A) (ys : List B) → map f xs ≡ map g ys → (t : ℕ) (x : A) (y : B) → slice_get xs t ≡ Some x → slice_get ys t ≡ Some y → f x ≡ g y
mapped_at f g [] ys e t x y at at' = absurd (cc)
mapped_at f g (a ∷ xs) [] e t x y at at' = absurd (cc)
mapped_at f g (a ∷ xs) (b ∷ ys) e zero x y at at' = ap f (sym (some_is at)) ∙ first_same e ∙ ap g (some_is at')
mapped_at f g (a ∷ xs) (b ∷ ys) e (suc t) x y at at' = mapped_at f g xs ys (rest_same e) t x y at at'

pub mapped_to : {A B : Type 0} (g : B → A) (xs : List A) (ys : List B) → xs ≡ map g ys → (t : ℕ) (x : A) (y : B) → slice_get xs t ≡ Some x → slice_get ys t ≡ Some y → x ≡ g y
mapped_to g [] ys e t x y at at' = absurd (cc)
mapped_to g (a ∷ xs) [] e t x y at at' = absurd (cc)
mapped_to g (a ∷ xs) (b ∷ ys) e zero x y at at' = sym (some_is at) ∙ first_same e ∙ ap g (some_is at')
mapped_to g (a ∷ xs) (b ∷ ys) e (suc t) x y at at' = mapped_to g xs ys (rest_same e) t x y at at'

pub all_of_each : {A : Type 0} (P : A → Type 0) (xs : List A) → Each P xs → All P xs
all_of_each P xs h k d below = h k (get_or xs k d) (slice_get-get_or xs k d below)

pub each_of_all : {A : Type 0} (P : A → Type 0) (xs : List A) → All P xs → Each P xs
each_of_all P xs h t x at = subst P (get_or_from_slice_get xs t x x at) (h t x (slice_get_within xs t x at))

module _ {L I S W : Type 0} (lanes : List (Started L I S)) (works : List (Vec W)) (count : length works ≡ length lanes) (crew : Crew L I S W) (h : IsCrewOf lanes works crew) where
  pub rows_many : length crew.rows.items ≡ length lanes
  rows_many = sym (length-map crew.rows.items (λ (r : Row S W). r.seats)) ∙ ap length h.seats_are ∙ length-map lanes (λ (x : Started L I S). x.workers)

  seats_of : (t : ℕ) (r : Row S W) (x : Started L I S) → slice_get crew.rows.items t ≡ Some r → slice_get lanes t ≡ Some x → r.seats ≡ x.workers
  seats_of t r x at at' = mapped_at (λ (r : Row S W). r.seats) (λ (x : Started L I S). x.workers) crew.rows.items lanes h.seats_are t r x at at'

  works_of : (t : ℕ) (r : Row S W) (x : Vec W) → slice_get crew.rows.items t ≡ Some r → slice_get works t ≡ Some x → r.works ≡ x
  works_of t r x at at' = sym (mapped_to (λ (r : Row S W). r.works) works crew.rows.items (sym h.works_are) t x r at' at)

  pub rows_full : (m : ℕ) → Each (λ (x : Started L I S). length x.workers.items ≡ m) lanes → Each (λ (x : Vec W). length x.items ≡ m) works → Each (HasPlaces m 0) crew.rows.items
  rows_full m s v t r at =
      let below = slice_get_within crew.rows.items t r at in
      let n = rows_many in
      let x = there_at lanes t (omega arith) in
      let y = there_at works t (omega arith) in record {
        seats = ap (λ (v : Vec S). length v.items) (seats_of t r x.0 at x.1) ∙ s t x.0 x.1;
        works = ap (λ (v : Vec W). length v.items) (works_of t r y.0 at y.1) ∙ v t y.0 y.1;
        seats_room = omega arith;
        works_room = omega arith;
      }

  pub is_out : (new : Crew L I S W) (rows sides : List (Row S W)) → new.lanes.items ≡ crew.lanes.items → new.ingests.items ≡ crew.ingests.items → new.rows.items ≡ rows → length rows ≡ length crew.rows.items
      → Each (HasPlaces 0 (length sides)) rows → Each (HasPlaces (length lanes) (length lanes)) sides → IsTurned crew.rows.items sides → IsSetOut lanes works new sides
  is_out new rows sides same_lanes same_ingests rows_are many empty full turned = record {
    lanes_are = same_lanes ∙ h.lanes_are;
    ingests_are = ap (map (λ (i : IngestSide I). i.seat)) same_ingests ∙ h.ingests_are;
    places = λ t i at. h.places t i (ap (λ l. slice_get l t) (sym same_ingests) ∙ at);
    rows_count = ap length rows_are ∙ many ∙ rows_many;
    rows = subst (Each (HasPlaces 0 (length sides))) (sym rows_are) empty;
    sides_are = full;
    seats = λ t w x side at at_side.
        let below = slice_get_within lanes t x at in
        let n = rows_many in
        let r = there_at crew.rows.items t (omega arith) in
        sym ((turned t w r.0 side r.1 at_side).0) ∙ ap (λ (v : Vec S). slice_get v.items w) (seats_of t r.0 x r.1 at);
    works_are = λ t w x side at at_side.
        let below = slice_get_within works t x at in
        let n = rows_many in
        let r = there_at crew.rows.items t (omega arith) in
        sym ((turned t w r.0 side r.1 at_side).1) ∙ ap (λ (v : Vec W). slice_get v.items w) (works_of t r.0 x r.1 at);
  }
