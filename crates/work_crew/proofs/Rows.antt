-- Rows that are moved into columns.
use Rattle.std.proofs.Common.{◌≡◌, ◌≢◌, ◌⊎◌, ℕ, zero, suc, ◌+◌, ◌<◌, ◌≤◌, List, [], ◌∷◌, ◌++◌, length, sym, refl, ap, ◌∙◌, subst, arith, inl, inr, Some}
use Rattle.std.specs.Prelude.{slice_get}
use Rattle.std.proofs.Math.ListN.{set}
use Rattle.std.proofs.lemmas.Bool.Decides.{eqb_tells}
use Rattle.std.proofs.lemmas.List.{length-append, length-set}
use Rattle.std.proofs.lemmas.Option.{slice_get_within}
use Rattle.work_crew.specs.Rows.{Each, HasPlaces, HasRoom, HasTaken, IsEmptied}
use Rattle.work_crew.specs.declared.row.Row.{Row}
use Rattle.work_crew.proofs.Members.{some_is, last_at}

-- LISTS

pub set_other : {A : Type 0} (xs : List A) (t u : ℕ) (x : A) → u ≢ t → slice_get (set xs t x) u ≡ slice_get xs u
set_other [] t u x ne = refl
set_other (y ∷ ys) zero zero x ne = absurd (ne refl)
set_other (y ∷ ys) zero (suc u) x ne = refl
set_other (y ∷ ys) (suc t) zero x ne = refl
set_other (y ∷ ys) (suc t) (suc u) x ne = set_other ys t u x (λ e. ne (ap suc e))

pub set_here : {A : Type 0} (xs : List A) (t : ℕ) (x a : A) → slice_get (set xs t x) t ≡ Some a → a ≡ x
set_here [] t x a at = absurd (cc)
set_here (y ∷ ys) zero x a at = sym (some_is at)
set_here (y ∷ ys) (suc t) x a at = set_here ys t x a at

pub last_or : {A : Type 0} (xs : List A) (x : A) (u : ℕ) (a : A) → slice_get (xs ++ x ∷ []) u ≡ Some a → (slice_get xs u ≡ Some a) ⊎ ((u ≡ length xs) × (a ≡ x))
last_or [] x zero a at = inr (refl, sym (some_is at))
last_or [] x (suc u) a at = absurd (cc)
last_or (y ∷ ys) x zero a at = inl at
last_or (y ∷ ys) x (suc u) a at = elim (last_or ys x u a at) [
  | inl h ↦ inl h
  | inr h ↦ inr (ap suc h.0, h.1)
]

pub front_at : {A : Type 0} (xs ys : List A) (u : ℕ) → u < length xs → slice_get (xs ++ ys) u ≡ slice_get xs u
front_at [] ys u lt = absurd (omega arith)
front_at (x ∷ xs) ys zero lt = refl
front_at (x ∷ xs) ys (suc u) lt = front_at xs ys u (omega arith)

pub there_at : {A : Type 0} (xs : List A) (u : ℕ) → u < length xs → (x : A) × (slice_get xs u ≡ Some x)
there_at [] u lt = absurd (omega arith)
there_at (x ∷ xs) zero lt = (x, refl)
there_at (x ∷ xs) (suc u) lt = there_at xs u (omega arith)

-- ONE ROW

pub taken_as : {S W : Type 0} {s s' : S} {v v' : W} {old old' new new' : Row S W} → s ≡ s' → v ≡ v' → old ≡ old' → new ≡ new' → HasTaken s' v' old' new' → HasTaken s v old new
taken_as {s = s} {v = v} {v' = v'} {old = old} {old' = old'} {new' = new'} p q r t h =
    subst (λ x. HasTaken s v old x) (sym t) (subst (λ x. HasTaken s v x new') (sym r) (subst (λ x. HasTaken s x old' new') (sym q) (subst (λ x. HasTaken x v' old' new') (sym p) h)))

module _ {S W : Type 0} (seats rest_seats : List S) (works rest_works : List W) (seat : S) (work : W) (seats_are : seats ≡ rest_seats ++ seat ∷ []) (works_are : works ≡ rest_works ++ work ∷ []) (same : length works ≡ length seats)
    (columns mid : List (Row S W)) (last : ℕ) (last_is : last ≡ length rest_seats) (before after : Row S W) (there : slice_get mid last ≡ Some before) (took : HasTaken seat work before after)
    (others : (w : ℕ) → length rest_seats ≤ w → slice_get mid w ≡ slice_get columns w) where
  same_rest : length rest_works ≡ length rest_seats
  same_rest =
      let a : length seats ≡ length rest_seats + 1 = ap length seats_are ∙ length-append rest_seats (seat ∷ []) in
      let b : length works ≡ length rest_works + 1 = ap length works_are ∙ length-append rest_works (work ∷ []) in omega arith

  pub row_taken : ((w : ℕ) (s : S) (v : W) (old new : Row S W) → slice_get rest_seats w ≡ Some s → slice_get rest_works w ≡ Some v → slice_get columns w ≡ Some old → slice_get mid w ≡ Some new → HasTaken s v old new)
      → (w : ℕ) (s : S) (v : W) (old new : Row S W) → slice_get seats w ≡ Some s → slice_get works w ≡ Some v → slice_get columns w ≡ Some old → slice_get (set mid last after) w ≡ Some new → HasTaken s v old new
  row_taken taken w s v old new at_s at_v at_old at_new = elim (last_or rest_seats seat w s (ap (λ l. slice_get l w) (sym seats_are) ∙ at_s)) [
    | inl h ↦ let below = slice_get_within rest_seats w s h in
        let not : w ≢ last = λ e. absurd (omega arith) in
        elim (last_or rest_works work w v (ap (λ l. slice_get l w) (sym works_are) ∙ at_v)) [
          | inl k ↦ taken w s v old new h k at_old (sym (set_other mid last w after not) ∙ at_new)
          | inr k ↦ absurd (let e = k.0 in let n = same_rest in omega arith)
        ]
    | inr h ↦ let here : w ≡ last = h.0 ∙ sym last_is in
        elim (last_or rest_works work w v (ap (λ l. slice_get l w) (sym works_are) ∙ at_v)) [
          | inl k ↦ absurd (let below = slice_get_within rest_works w v k in let e = h.0 in let n = same_rest in omega arith)
          | inr k ↦ taken_as h.1 k.1
              (some_is (sym at_old ∙ sym (others w (let e = h.0 in omega arith)) ∙ ap (slice_get mid) here ∙ there))
              (set_here mid last after new (ap (slice_get (set mid last after)) (sym here) ∙ at_new)) took
        ]
  ]

  pub row_others : (w : ℕ) → length seats ≤ w → slice_get (set mid last after) w ≡ slice_get columns w
  row_others w le =
      let a : length seats ≡ length rest_seats + 1 = ap length seats_are ∙ length-append rest_seats (seat ∷ []) in
      set_other mid last w after (λ e. absurd (omega arith)) ∙ others w (omega arith)

-- ALL ROWS

pub places_from_emptied : {S W : Type 0} (m : ℕ) (old new : Row S W) → HasPlaces m 0 old → IsEmptied old new → HasPlaces 0 m new
places_from_emptied m old new h e = record {
  seats = ap length e.seats;
  works = ap length e.works;
  seats_room = let a = h.seats in let b = old.seats.ok.0 in let d = old.seats.ok.1 in let f = e.seats_room in omega arith;
  works_room = let a = h.works in let b = old.works.ok.0 in let d = old.works.ok.1 in let f = e.works_room in omega arith;
}

-- after t rows
pub record HasMoved {S W : Type 0} (t n m : ℕ) (rows_before rows : List (Row S W)) (columns : List (Row S W)) : Type 0 where
  pub rows_count : length rows ≡ n
  pub columns_count : length columns ≡ m
  pub still : (u : ℕ) → t ≤ u → slice_get rows u ≡ slice_get rows_before u
  pub emptied : (u : ℕ) (r : Row S W) → u < t → slice_get rows u ≡ Some r → HasPlaces 0 m r
  pub grown : Each (HasPlaces t n) columns
  pub turned : (u w : ℕ) (r c : Row S W) → u < t → slice_get rows_before u ≡ Some r → slice_get columns w ≡ Some c
      → (slice_get r.seats.items w ≡ slice_get c.seats.items u) × (slice_get r.works.items w ≡ slice_get c.works.items u)

pub moved_none : {S W : Type 0} (rows columns : List (Row S W)) → Each (HasPlaces 0 (length rows)) columns → HasMoved 0 (length rows) (length columns) rows rows columns
moved_none rows columns h = record {
  rows_count = refl;
  columns_count = refl;
  still = λ u le. refl;
  emptied = λ u r lt at. absurd (omega arith);
  grown = h;
  turned = λ u w r c lt at at'. absurd (omega arith);
}

pub rooms : {S W : Type 0} (t n : ℕ) (columns : List (Row S W)) → t < n → Each (HasPlaces t n) columns → Each HasRoom columns
rooms t n columns lt h w c at = let p = h w c at in record {
  seats = let a = p.seats in let b = c.seats.ok.0 in let d = p.seats_room in omega arith;
  works = let a = p.works in let b = c.works.ok.0 in let d = p.works_room in omega arith;
}

module _ {S W : Type 0} (t n m : ℕ) (rows_before rows columns : List (Row S W)) (h : HasMoved t n m rows_before rows columns) (full : Each (HasPlaces m 0) rows_before) (lt : t < n)
    (row after : Row S W) (there : slice_get rows t ≡ Some row) (emptied : IsEmptied row after) (columns_after : List (Row S W)) (count : length columns_after ≡ length columns)
    (taken : (w : ℕ) (s : S) (v : W) (old new : Row S W) → slice_get row.seats.items w ≡ Some s → slice_get row.works.items w ≡ Some v → slice_get columns w ≡ Some old → slice_get columns_after w ≡ Some new → HasTaken s v old new) where
  first_there : slice_get rows_before t ≡ Some row
  first_there = sym (h.still t (omega arith)) ∙ there

  row_full : HasPlaces m 0 row
  row_full = full t row first_there

  -- what column w was and what it took
  record Took (w : ℕ) (c : Row S W) : Type 0 where
    s : S
    v : W
    old : Row S W
    at_s : slice_get row.seats.items w ≡ Some s
    at_v : slice_get row.works.items w ≡ Some v
    at_old : slice_get columns w ≡ Some old
    took : HasTaken s v old c

  took_by : (w : ℕ) (c : Row S W) → slice_get columns_after w ≡ Some c → Took w c
  took_by w c at =
      let below = slice_get_within columns_after w c at in
      let wide : w < m = let k = h.columns_count in omega arith in
      let s = there_at row.seats.items w (let k = row_full.seats in omega arith) in
      let v = there_at row.works.items w (let k = row_full.works in omega arith) in
      let o = there_at columns w (omega arith) in
      record { s = s.0; v = v.0; old = o.0; at_s = s.1; at_v = v.1; at_old = o.1; took = taken w s.0 v.0 o.0 c s.1 v.1 o.1 at }

  pub moved_more : HasMoved (t + 1) n m rows_before (set rows t after) columns_after
  moved_more = record {
    rows_count = length-set rows t after ∙ h.rows_count;
    columns_count = count ∙ h.columns_count;
    still = λ u le. set_other rows t u after (λ e. absurd (omega arith)) ∙ h.still u (omega arith);
    emptied = λ u r below at. elim (eqb_tells u t) [
      | inl e ↦ subst (HasPlaces 0 m) (sym (set_here rows t after r (ap (slice_get (set rows t after)) (sym e.1) ∙ at))) (places_from_emptied m row after row_full emptied)
      | inr e ↦ h.emptied u r (let ne = e.1 in omega arith) (sym (set_other rows t u after e.1) ∙ at)
    ];
    grown = λ w c at. let x = took_by w c at in let p = h.grown w x.old x.at_old in record {
      seats = ap length x.took.seats ∙ length-append x.old.seats.items (x.s ∷ []) ∙ ap (λ k. k + 1) p.seats;
      works = ap length x.took.works ∙ length-append x.old.works.items (x.v ∷ []) ∙ ap (λ k. k + 1) p.works;
      seats_room = let a = p.seats_room in let b = x.took.seats_room in omega arith;
      works_room = let a = p.works_room in let b = x.took.works_room in omega arith;
    };
    turned = λ u w r c below at_r at_c. let x = took_by w c at_c in let p = h.grown w x.old x.at_old in elim (eqb_tells u t) [
      | inl e ↦ let is : r ≡ row = some_is (sym at_r ∙ ap (slice_get rows_before) e.1 ∙ first_there) in (
        ap (λ (y : Row S W). slice_get y.seats.items w) is ∙ x.at_s ∙ sym (ap (λ l. slice_get l u) x.took.seats ∙ ap (slice_get (x.old.seats.items ++ x.s ∷ [])) (e.1 ∙ sym p.seats) ∙ last_at x.old.seats.items x.s),
        ap (λ (y : Row S W). slice_get y.works.items w) is ∙ x.at_v ∙ sym (ap (λ l. slice_get l u) x.took.works ∙ ap (slice_get (x.old.works.items ++ x.v ∷ [])) (e.1 ∙ sym p.works) ∙ last_at x.old.works.items x.v),
      )
      | inr e ↦ let before : u < t = let ne = e.1 in omega arith in let q = h.turned u w r x.old before at_r x.at_old in (
        q.0 ∙ sym (ap (λ l. slice_get l u) x.took.seats ∙ front_at x.old.seats.items (x.s ∷ []) u (let k = p.seats in omega arith)),
        q.1 ∙ sym (ap (λ l. slice_get l u) x.took.works ∙ front_at x.old.works.items (x.v ∷ []) u (let k = p.works in omega arith)),
      )
    ];
  }
