-- Sums over lists.
use Rattle.std.proofs.Common.{◌≡◌, ℕ, zero, suc, ◌+◌, ◌≤◌, Bool, true, false, not, cond, nat_eq, ◌||◌, List, [], ◌∷◌, ◌++◌, map, get_or, refl, ap, sym, arith}
use Rattle.std.proofs.lemmas.Bool.Decides.{nat_tests}
use Rattle.std.specs.List.{filter, flat_map, list_any, range_with_len, sum_by}
use Rattle.std.proofs.lemmas.List.Sums.{sum_by-cons}
use Rattle.flow_work.proofs.Merged.{AreApart}

abbrev pub total : {X : Type 0} → (X → ℕ) → List X → ℕ
total f [] = 0
total f (x ∷ xs) = f x + total f xs

pub total_both : {X : Type 0} (f : X → ℕ) (xs ys : List X) → total f (xs ++ ys) ≡ total f xs + total f ys
total_both f [] ys = omega arith
total_both f (x ∷ xs) ys = omega (arith, total_both f xs ys)

pub total_map : {X Y : Type 0} (f : Y → ℕ) (g : X → Y) (xs : List X) → total f (map g xs) ≡ total (λ x. f (g x)) xs
total_map f g [] = refl
total_map f g (x ∷ xs) = ap (λ n. f (g x) + n) (total_map f g xs)

pub total_flat : {X Y : Type 0} (f : Y → ℕ) (g : X → List Y) (xs : List X) → total f (flat_map g xs) ≡ total (λ x. total f (g x)) xs
total_flat f g [] = refl
total_flat f g (x ∷ xs) = omega (arith, total_both f (g x) (flat_map g xs), total_flat f g xs)

pub total_less : {X : Type 0} (f g : X → ℕ) → ((x : X) → f x ≤ g x) → (xs : List X) → total f xs ≤ total g xs
total_less f g h [] = omega arith
total_less f g h (x ∷ xs) = omega (arith, h x, total_less f g h xs)

pub total_sum : {X : Type 0} (f g : X → ℕ) (xs : List X) → total (λ x. f x + g x) xs ≡ total f xs + total g xs
total_sum f g [] = omega arith
total_sum f g (x ∷ xs) = omega (arith, total_sum f g xs)

pub total_none : {X : Type 0} (f : X → ℕ) → ((x : X) → f x ≡ 0) → (xs : List X) → total f xs ≡ 0
total_none f h [] = refl
total_none f h (x ∷ xs) = omega (arith, h x, total_none f h xs)

-- what a test takes and what it leaves
pub total_split : {X : Type 0} (f : X → ℕ) (t : X → Bool) (xs : List X) → total f (filter t xs) + total f (filter (λ x. not (t x)) xs) ≡ total f xs
total_split f t [] = omega arith
total_split f t (x ∷ xs) = split (t x) (total_split f t xs) where
  split : (b : Bool) → total f (filter t xs) + total f (filter (λ y. not (t y)) xs) ≡ total f xs
      → total f (cond b (x ∷ filter t xs) (filter t xs)) + total f (cond (not b) (x ∷ filter (λ y. not (t y)) xs) (filter (λ y. not (t y)) xs)) ≡ f x + total f xs
  split true next = omega (arith, next)
  split false next = omega (arith, next)

pub total_filter : {X : Type 0} (f : X → ℕ) (t : X → Bool) (xs : List X) → total f (filter t xs) ≤ total f xs
total_filter f t xs = omega (arith, total_split f t xs)

-- a sum of sums, the other way round
pub total_turn : {X Y : Type 0} (f : X → Y → ℕ) (xs : List X) (ys : List Y) → total (λ x. total (f x) ys) xs ≡ total (λ y. total (λ x. f x y) xs) ys
total_turn f [] ys = sym (total_none (λ y. 0) (λ y. refl) ys)
total_turn f (x ∷ xs) ys = omega (arith, total_turn f xs ys, total_sum (f x) (λ y. total (λ x. f x y) xs) ys)

-- PLACES OF A LIST

moved : (h : ℕ → ℕ) (k m : ℕ) → total h (range_with_len (k + 1) m) ≡ total (λ g. h (suc g)) (range_with_len k m)
moved h k zero = refl
moved h k (suc m) = let e : k + 1 ≡ suc k = omega arith in omega (arith, ap h e, moved h (k + 1) m)

-- so many first places have no more than all
pub total_places : {X : Type 0} (f : List X → ℕ) → f [] ≡ 0 → (lists : List (List X)) (m : ℕ) → total (λ g. f (get_or lists g [])) (range_with_len 0 m) ≤ total f lists
total_places f none [] m = omega (arith, total_none (λ (g : ℕ). f []) (λ g. none) (range_with_len 0 m))
total_places f none (ys ∷ lists) zero = omega arith
total_places f none (ys ∷ lists) (suc m) = omega (arith, moved (λ g. f (get_or (ys ∷ lists) g [])) 0 m, total_places f none lists m)

-- NUMBERS THAT ARE APART

true_not : true ≡ false → ⊥
true_not e = cc

unlike : (k m : ℕ) → k ≡ m → nat_eq k m ≡ false → ⊥
unlike k m e h = grind (arith, nat_tests)

module _ (t : ℕ → Bool) (one : (k m : ℕ) → t k ≡ true → t m ≡ true → k ≡ m) (w : ℕ) where
  others : (f : ℕ) (fs : List ℕ) → t f ≡ true → list_any (nat_eq f) fs ≡ false → total (λ m. cond (t m) w 0) fs ≡ 0
  others f [] h none = refl
  others f (g ∷ fs) h none = split (t g) (nat_eq f g) refl refl none (others f fs h) where
    split : (b c : Bool) → t g ≡ b → nat_eq f g ≡ c → (c || list_any (nat_eq f) fs) ≡ false → (list_any (nat_eq f) fs ≡ false → total (λ m. cond (t m) w 0) fs ≡ 0) → cond b w 0 + total (λ m. cond (t m) w 0) fs ≡ 0
    split b true p q k next = absurd (true_not k)
    split true false p q k next = absurd (unlike f g (one f g h p) q)
    split false false p q k next = omega (arith, next k)

  -- of numbers that are apart a test that tells one number finds one
  pub once : (fs : List ℕ) → AreApart fs → total (λ m. cond (t m) w 0) fs ≤ w
  once [] h = omega arith
  once (f ∷ fs) (h, hs) = split (t f) refl (once fs hs) where
    split : (b : Bool) → t f ≡ b → total (λ m. cond (t m) w 0) fs ≤ w → cond b w 0 + total (λ m. cond (t m) w 0) fs ≤ w
    split true p next = omega (arith, others f fs p h)
    split false p next = omega (arith, next)

-- AS STD COUNTS

pub sum_is : {X : Type 0} (f : X → ℕ) (xs : List X) → sum_by f xs ≡ total f xs
sum_is f [] = refl
sum_is f (x ∷ xs) = omega (arith, sum_by-cons f x xs, sum_is f xs)
