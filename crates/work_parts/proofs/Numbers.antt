-- Numbers in a row, and lists made of them.
use Rattle.std.proofs.Common.{◌≡◌, ℕ, zero, suc, ◌+◌, ◌<◌, ◌≤◌, List, [], ◌∷◌, map, Bool, true, false, ◌||◌, nat_eq, refl, ap, ◌∙◌, arith}
use Rattle.std.proofs.lemmas.Bool.Decides.{nat_tests}
use Rattle.std.specs.List.{list_any, range_with_len, slice_index_or}
use Rattle.flow_work.proofs.Merged.{AreApart}

not_below : (v k m : ℕ) → v < k → list_any (nat_eq v) (range_with_len k m) ≡ false
not_below v k zero l = refl
not_below v k (suc m) l =
    let apart : nat_eq v k ≡ false = grind (arith, nat_tests) in
    ap (λ b. b || list_any (nat_eq v) (range_with_len (k + 1) m)) apart ∙ not_below v (k + 1) m (omega (arith, l))

pub are_apart : (k m : ℕ) → AreApart (range_with_len k m)
are_apart k zero = tt
are_apart k (suc m) = (not_below k (k + 1) m (omega arith), are_apart (k + 1) m)

pub is_within : (v k m : ℕ) → k ≤ v → v < k + m → list_any (nat_eq v) (range_with_len k m) ≡ true
is_within v k zero l h = absurd (omega (arith, l, h))
is_within v k (suc m) l h = split (nat_eq v k) refl (λ e. is_within v (k + 1) m e (omega (arith, h))) where
  later : nat_eq v k ≡ false → k + 1 ≤ v
  later e = grind (arith, nat_tests)

  split : (b : Bool) → nat_eq v k ≡ b → (k + 1 ≤ v → list_any (nat_eq v) (range_with_len (k + 1) m) ≡ true) → (b || list_any (nat_eq v) (range_with_len (k + 1) m)) ≡ true
  split true e next = refl
  split false e next = next (later e)

pub map_twice : {X Y Z : Type 0} (f : Y → Z) (h : X → Y) (xs : List X) → map f (map h xs) ≡ map (λ x. f (h x)) xs
map_twice f h [] = refl
map_twice f h (x ∷ xs) = ap (λ ys. f (h x) ∷ ys) (map_twice f h xs)

-- what is made of each number is at its place
pub at_place : {Y : Type 0} (d : Y) (h : ℕ → Y) (k m g : ℕ) → g < m → slice_index_or (map h (range_with_len k m)) g d ≡ h (k + g)
at_place d h k zero g l = absurd (omega (arith, l))
at_place d h k (suc m) zero l = let e : k ≡ k + 0 = omega arith in ap h e
at_place d h k (suc m) (suc g) l = let e : k + 1 + g ≡ k + suc g = omega arith in at_place d h (k + 1) m g (omega (arith, l)) ∙ ap h e

pub map_alike : {Y : Type 0} (h h' : ℕ → Y) (k m : ℕ) → ((g : ℕ) → g < k + m → h g ≡ h' g) → map h (range_with_len k m) ≡ map h' (range_with_len k m)
map_alike h h' k zero e = refl
map_alike h h' k (suc m) e =
    ap (λ y. y ∷ map h (range_with_len (k + 1) m)) (e k (omega arith)) ∙ ap (λ ys. h' k ∷ ys) (map_alike h h' (k + 1) m (λ g l. e g (omega (arith, l))))
