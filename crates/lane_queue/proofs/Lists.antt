-- Lists read at one place, and two lists read side by side.
use Rattle.std.proofs.Common.{◌≡◌, ◌≢◌, ◌⊎◌, ℕ, zero, suc, ◌+◌, ◌<◌, ◌≤◌, List, [], ◌∷◌, ◌++◌, length, get_or, set, sym, refl, ap, ◌∙◌, subst, inl, inr, ⊎_elim, arith}
use Rattle.std.specs.Prelude.{slice_get, Some}
use Rattle.std.proofs.lemmas.Option.{slice_get_within}
use Rattle.lane_core.specs.Log.{LogModel}
use Rattle.lane_core.specs.View.{pairs_in}
use Rattle.lane_core.specs.Seats.{log_of}
use Rattle.lane_queue.specs.Lists.{Each, rooms_in}

pub same_some : {X : Type 0} (x y : X) → Some x ≡ Some y → x ≡ y
same_some x y e = cc

pub get_set : {X : Type 0} (l : List X) (i j : ℕ) (a b : X) → slice_get (set l i a) j ≡ Some b → ((j ≡ i) × (a ≡ b)) ⊎ ((j ≢ i) × (slice_get l j ≡ Some b))
get_set [] i j a b e = absurd (cc)
get_set (x ∷ xs) zero zero a b e = inl (refl, same_some a b e)
get_set (x ∷ xs) zero (suc j) a b e = inr ((λ h. omega arith), e)
get_set (x ∷ xs) (suc i) zero a b e = inr ((λ h. omega arith), e)
get_set (x ∷ xs) (suc i) (suc j) a b e = ⊎_elim (λ t. inl (ap suc t.0, t.1)) (λ t. let n = t.0 in inr ((λ h. n (omega arith)), t.1)) (get_set xs i j a b e)

pub get_set_else : {X : Type 0} (l : List X) (i j : ℕ) (a : X) → j ≢ i → slice_get (set l i a) j ≡ slice_get l j
get_set_else [] i j a n = refl
get_set_else (x ∷ xs) zero zero a n = absurd (n refl)
get_set_else (x ∷ xs) zero (suc j) a n = refl
get_set_else (x ∷ xs) (suc i) zero a n = refl
get_set_else (x ∷ xs) (suc i) (suc j) a n = get_set_else xs i j a (λ e. n (ap suc e))

pub get_last : {X : Type 0} (l : List X) (a b : X) (j : ℕ) → slice_get (l ++ a ∷ []) j ≡ Some b → (slice_get l j ≡ Some b) ⊎ ((j ≡ length l) × (a ≡ b))
get_last [] a b zero e = inr (refl, same_some a b e)
get_last [] a b (suc j) e = absurd (cc)
get_last (x ∷ xs) a b zero e = inl e
get_last (x ∷ xs) a b (suc j) e = ⊎_elim (λ t. inl t) (λ t. inr (ap suc t.0, t.1)) (get_last xs a b j e)

-- the second list changes at one place
pub each_set : {X Y : Type 0} (P Q : ℕ → X → Y → Type 0) (xs : List X) (ys : List Y) (w : ℕ) (x : X) (y : Y) → slice_get xs w ≡ Some x → Q w x y → ((k : ℕ) (a : X) (b : Y) → k ≢ w → P k a b → Q k a b)
    → Each P xs ys → Each Q xs (set ys w y)
each_set {X} {Y} P Q xs ys w x y there new old all k a b ea eb = ⊎_elim
    (λ (t : (k ≡ w) × (y ≡ b)). let same : x ≡ a = same_some x a (sym there ∙ ap (slice_get xs) (sym t.0) ∙ ea) in subst (λ (z : ℕ × X × Y). Q z.0 z.1 z.2) (λ j. (sym t.0 j, same j, t.1 j)) new)
    (λ (t : (k ≢ w) × (slice_get ys k ≡ Some b)). old k a b t.0 (all k a b ea t.1))
    (get_set ys w k y b eb)

-- both lists grow
pub each_last : {X Y : Type 0} (P : ℕ → X → Y → Type 0) (xs : List X) (ys : List Y) (x : X) (y : Y) → length ys ≡ length xs → P (length xs) x y → Each P xs ys → Each P (xs ++ x ∷ []) (ys ++ y ∷ [])
each_last {X} {Y} P xs ys x y long new all k a b ea eb = ⊎_elim
    (λ (s : slice_get xs k ≡ Some a). ⊎_elim
    (λ (t : slice_get ys k ≡ Some b). all k a b s t)
    (λ (t : (k ≡ length ys) × (y ≡ b)). absurd (let lt = slice_get_within xs k a s in let e = t.0 in omega arith))
    (get_last ys y b k eb))
    (λ (s : (k ≡ length xs) × (x ≡ a)). ⊎_elim
    (λ (t : slice_get ys k ≡ Some b). absurd (let lt = slice_get_within ys k b t in let e = s.0 in omega arith))
    (λ (t : (k ≡ length ys) × (y ≡ b)). subst (λ (z : ℕ × X × Y). P z.0 z.1 z.2) (λ j. (sym s.0 j, s.1 j, t.1 j)) new)
    (get_last ys y b k eb))
    (get_last xs x a k ea)

-- THE STORED LOGS

pub log_is : (l : List LogModel) (w : ℕ) (d : LogModel) → w < length l → (get_or l w d).pairs ≡ log_of (pairs_in l) w
log_is [] w d lt = absurd (omega arith)
log_is (y ∷ ys) zero d lt = refl
log_is (y ∷ ys) (suc w) d lt = log_is ys w d (omega arith)

pub room_is : (l : List LogModel) (w : ℕ) (d : LogModel) → w < length l → (get_or l w d).room ≡ get_or (rooms_in l) w 0
room_is [] w d lt = absurd (omega arith)
room_is (y ∷ ys) zero d lt = refl
room_is (y ∷ ys) (suc w) d lt = room_is ys w d (omega arith)

pub pairs_set : (l : List LogModel) (w : ℕ) (x : LogModel) → pairs_in (set l w x) ≡ set (pairs_in l) w x.pairs
pairs_set [] w x = refl
pairs_set (y ∷ ys) zero x = refl
pairs_set (y ∷ ys) (suc w) x = ap (λ t. y.pairs ∷ t) (pairs_set ys w x)

pub rooms_set : (l : List LogModel) (w : ℕ) (x d : LogModel) → w < length l → (get_or l w d).room ≤ x.room → (k : ℕ) → get_or (rooms_in l) k 0 ≤ get_or (rooms_in (set l w x)) k 0
rooms_set [] w x d lt le k = absurd (omega arith)
rooms_set (y ∷ ys) zero x d lt le zero = le
rooms_set (y ∷ ys) zero x d lt le (suc k) = omega arith
rooms_set (y ∷ ys) (suc w) x d lt le zero = omega arith
rooms_set (y ∷ ys) (suc w) x d lt le (suc k) = rooms_set ys w x d (omega arith) le k

pub rooms_last : (xs : List LogModel) (y : LogModel) (j s : ℕ) → (j < length xs → s ≤ get_or (rooms_in xs) j 0) → (j ≡ length xs → s ≤ y.room) → j < length xs + 1 → s ≤ get_or (rooms_in (xs ++ y ∷ [])) j 0
rooms_last [] y zero s old new lt = new refl
rooms_last [] y (suc j) s old new lt = absurd (omega arith)
rooms_last (x ∷ xs) y zero s old new lt = old (omega arith)
rooms_last (x ∷ xs) y (suc j) s old new lt = rooms_last xs y j s (λ l. old (omega arith)) (λ e. new (ap suc e)) (omega arith)
