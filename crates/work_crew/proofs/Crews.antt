-- Lists of a crew that grow at their end or lose their last.
use Rattle.std.proofs.Common.{◌≡◌, ◌≢◌, ℕ, ◌+◌, List, [], ◌∷◌, ◌++◌, map, length, sym, ap, ◌∙◌, subst, arith, inl, inr, Some}
use Rattle.std.specs.Prelude.{slice_get, Result, Ok, Err, OnOk}
use Rattle.std.specs.Global.{Vec}
use Rattle.std.proofs.lemmas.Bool.Decides.{eqb_tells}
use Rattle.std.proofs.lemmas.List.{map-append, length-append, length-map}
use Rattle.std.proofs.lemmas.Option.{slice_get_within}
use Rattle.lane_core.specs.declared.kit.Started.{Started}
use Rattle.work_crew.specs.Crews.{Threes, Fours, IsCrewOf}
use Rattle.work_crew.specs.declared.row.Row.{Row}
use Rattle.work_crew.specs.declared.sides.IngestSide.{IngestSide}
use Rattle.work_crew.specs.declared.crew.Crew.{Crew}
use Rattle.work_crew.proofs.Members.{last_at, before_at}
use Rattle.work_crew.proofs.Rows.{last_or}

pub end_at : {A : Type 0} (xs : List A) (x : A) (t : ℕ) (a : A) → t ≡ length xs → slice_get (xs ++ x ∷ []) t ≡ Some a → a ≡ x
end_at xs x t a is at = elim (last_or xs x t a at) [
  | inl h ↦ absurd (let b = slice_get_within xs t a h in omega arith)
  | inr h ↦ h.1
]

pub rest_at : {A : Type 0} (xs : List A) (x : A) (t : ℕ) (a : A) → t ≢ length xs → slice_get (xs ++ x ∷ []) t ≡ Some a → slice_get xs t ≡ Some a
rest_at xs x t a ne at = elim (last_or xs x t a at) [
  | inl h ↦ h
  | inr h ↦ absurd (ne h.0)
]

pub subst3 : {A B C : Type 0} (P : A → B → C → Type 0) {a a' : A} {b b' : B} {c c' : C} → a ≡ a' → b ≡ b' → c ≡ c' → P a' b' c' → P a b c
subst3 P {a = a} {a' = a'} {b = b} {b' = b'} {c' = c'} p q r x = subst (λ z. P a b z) (sym r) (subst (λ z. P a z c') (sym q) (subst (λ z. P z b' c') (sym p) x))

pub subst4 : {A B C D : Type 0} (P : A → B → C → D → Type 0) {a a' : A} {b b' : B} {c c' : C} {d d' : D} → a ≡ a' → b ≡ b' → c ≡ c' → d ≡ d' → P a' b' c' d' → P a b c d
subst4 P {a = a} {b = b} {c = c} {d' = d'} p q r s x = subst (P a b c) (sym s) (subst3 (λ a b c. P a b c d') p q r x)

pub threes_more : {A B C : Type 0} (P : A → B → C → Type 0) (xs : List A) (ys : List B) (zs : List C) (x : A) (y : B) (z : C) → length ys ≡ length xs → length zs ≡ length xs → Threes P xs ys zs → P x y z
    → Threes P (xs ++ x ∷ []) (ys ++ y ∷ []) (zs ++ z ∷ [])
threes_more P xs ys zs x y z m n h p t a b c at_a at_b at_c = elim (eqb_tells t (length xs)) [
  | inl e ↦ subst3 P (end_at xs x t a e.1 at_a) (end_at ys y t b (e.1 ∙ sym m) at_b) (end_at zs z t c (e.1 ∙ sym n) at_c) p
  | inr e ↦ h t a b c (rest_at xs x t a e.1 at_a) (rest_at ys y t b (λ d. e.1 (d ∙ m)) at_b) (rest_at zs z t c (λ d. e.1 (d ∙ n)) at_c)
]

pub fours_more : {A B C D : Type 0} (P : A → B → C → D → Type 0) (xs : List A) (ys : List B) (zs : List C) (ws : List D) (x : A) (y : B) (z : C) (w : D) → length ys ≡ length xs → length zs ≡ length xs → length ws ≡ length xs
    → Fours P xs ys zs ws → P x y z w → Fours P (xs ++ x ∷ []) (ys ++ y ∷ []) (zs ++ z ∷ []) (ws ++ w ∷ [])
fours_more P xs ys zs ws x y z w m n o h p t a b c d at_a at_b at_c at_d = elim (eqb_tells t (length xs)) [
  | inl e ↦ subst4 P (end_at xs x t a e.1 at_a) (end_at ys y t b (e.1 ∙ sym m) at_b) (end_at zs z t c (e.1 ∙ sym n) at_c) (end_at ws w t d (e.1 ∙ sym o) at_d) p
  | inr e ↦ h t a b c d (rest_at xs x t a e.1 at_a) (rest_at ys y t b (λ f. e.1 (f ∙ m)) at_b) (rest_at zs z t c (λ f. e.1 (f ∙ n)) at_c) (rest_at ws w t d (λ f. e.1 (f ∙ o)) at_d)
]

-- those without the last
pub threes_fewer : {A B C : Type 0} (P : A → B → C → Type 0) (xs xs' : List A) (ys ys' : List B) (zs zs' : List C) (x : A) (y : B) (z : C) → xs' ≡ xs ++ x ∷ [] → ys' ≡ ys ++ y ∷ [] → zs' ≡ zs ++ z ∷ [] → Threes P xs' ys' zs' → Threes P xs ys zs
threes_fewer P xs xs' ys ys' zs zs' x y z p q r h t a b c at_a at_b at_c = h t a b c
    (ap (λ l. slice_get l t) p ∙ before_at xs x t a at_a) (ap (λ l. slice_get l t) q ∙ before_at ys y t b at_b) (ap (λ l. slice_get l t) r ∙ before_at zs z t c at_c)

-- the last ones
pub threes_last : {A B C : Type 0} (P : A → B → C → Type 0) (xs xs' : List A) (ys ys' : List B) (zs zs' : List C) (x : A) (y : B) (z : C) → xs' ≡ xs ++ x ∷ [] → ys' ≡ ys ++ y ∷ [] → zs' ≡ zs ++ z ∷ []
    → length ys' ≡ length xs' → length zs' ≡ length xs' → Threes P xs' ys' zs' → P x y z
threes_last P xs xs' ys ys' zs zs' x y z p q r m n h =
    let a : length xs' ≡ length xs + 1 = ap length p ∙ length-append xs (x ∷ []) in
    let b : length ys' ≡ length ys + 1 = ap length q ∙ length-append ys (y ∷ []) in
    let c : length zs' ≡ length zs + 1 = ap length r ∙ length-append zs (z ∷ []) in
    let k : length xs ≡ length ys = omega arith in
    let l : length xs ≡ length zs = omega arith in
    h (length xs) x y z (ap (λ v. slice_get v (length xs)) p ∙ last_at xs x)
    (ap (λ v. slice_get v (length xs)) q ∙ ap (slice_get (ys ++ y ∷ [])) k ∙ last_at ys y) (ap (λ v. slice_get v (length xs)) r ∙ ap (slice_get (zs ++ z ∷ [])) l ∙ last_at zs z)

-- one lane more
pub crew_more : {L I S W : Type 0} (lanes rest : List (Started L I S)) (works others : List (Vec W)) (mid new : Crew L I S W) (last : Started L I S) (row : Vec W) (t : ℕ)
    → lanes ≡ rest ++ last ∷ [] → works ≡ others ++ row ∷ [] → t ≡ length rest → IsCrewOf rest others mid
    → new.lanes.items ≡ mid.lanes.items ++ last.lane ∷ [] → (side : IngestSide I) → side.lane ≡ t → side.seat ≡ last.ingest → new.ingests.items ≡ mid.ingests.items ++ side ∷ []
    → (kept : Row S W) → kept.seats ≡ last.workers → kept.works ≡ row → new.rows.items ≡ mid.rows.items ++ kept ∷ [] → IsCrewOf lanes works new
crew_more lanes rest works others mid new last row t lanes_are works_are t_is h is_lanes side lane_is seat_is is_ingests kept seats_is works_is is_rows = record {
  lanes_are = is_lanes ∙ ap (λ l. l ++ last.lane ∷ []) h.lanes_are ∙ sym (map-append (λ (x : Started _ _ _). x.lane) rest (last ∷ [])) ∙ ap (map (λ (x : Started _ _ _). x.lane)) (sym lanes_are);
  ingests_are = ap (map (λ (i : IngestSide _). i.seat)) is_ingests ∙ map-append (λ (i : IngestSide _). i.seat) mid.ingests.items (side ∷ []) ∙ (λ j. h.ingests_are j ++ seat_is j ∷ [])
      ∙ sym (map-append (λ (x : Started _ _ _). x.ingest) rest (last ∷ [])) ∙ ap (map (λ (x : Started _ _ _). x.ingest)) (sym lanes_are);
  places = λ u i at.
      let count : length mid.ingests.items ≡ length rest = sym (length-map mid.ingests.items (λ (i : IngestSide _). i.seat)) ∙ ap length h.ingests_are ∙ length-map rest (λ (x : Started _ _ _). x.ingest) in
      elim (last_or mid.ingests.items side u i (ap (λ l. slice_get l u) (sym is_ingests) ∙ at)) [
        | inl k ↦ h.places u i k
        | inr k ↦ ap (λ (i : IngestSide _). i.lane) k.1 ∙ lane_is ∙ t_is ∙ sym count ∙ sym k.0
      ];
  seats_are = ap (map (λ (r : Row _ _). r.seats)) is_rows ∙ map-append (λ (r : Row _ _). r.seats) mid.rows.items (kept ∷ []) ∙ (λ j. h.seats_are j ++ seats_is j ∷ [])
      ∙ sym (map-append (λ (x : Started _ _ _). x.workers) rest (last ∷ [])) ∙ ap (map (λ (x : Started _ _ _). x.workers)) (sym lanes_are);
  works_are = ap (map (λ (r : Row _ _). r.works)) is_rows ∙ map-append (λ (r : Row _ _). r.works) mid.rows.items (kept ∷ []) ∙ (λ j. h.works_are j ++ works_is j ∷ []) ∙ sym works_are;
}

-- ANSWERS

pub both_ok : {A E P Q R : Type 0} (r : Result A E) → (P → Q → R) → OnOk r P → OnOk r Q → OnOk r R
both_ok (Ok x) f p q = f p q
both_ok (Err e) f p q = tt

-- what holds where an answer is Ok, of one that is
pub from_ok : {A E P : Type 0} (r : Result A E) (x : A) → r ≡ Ok x → OnOk r P → P
from_ok {P = P} r x is h = subst (λ r. OnOk r P) is h
