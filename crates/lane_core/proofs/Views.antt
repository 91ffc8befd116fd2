-- Sums over the views of a table, which changes at one place, and lists of slots that grow at their end or lose a place.
use Rattle.std.proofs.Common.{◌≡◌, ◌≢◌, ℕ, zero, suc, ◌+◌, ◌<◌, ◌≤◌, List, [], ◌∷◌, ◌++◌, length, get_or, set, sym, refl, ap, ◌∙◌, subst, arith, inl, inr}
use mathlib.Core.Option.{some, some-injective, some-ne-none}
use native.Mathlib.Decide.{dec_le}
use lib.ListN.{get_elem?}
use Rattle.std.proofs.lemmas.Bool.Decides.{eqb_tells}
use Rattle.std.specs.List.{remove}
use Rattle.lane_spec.specs.Counts.{total, times, without}
use Rattle.lane_core.proofs.Counting.{times_here, times_else, times_append, times_without, times_without_else, length_without, without_here, without_next}

module _ {A : Type 0} (f : A → ℕ) where
  pub total_set : (l : List A) (i : ℕ) (v w : A) → get_elem? l i ≡ some v → total f (set l i w) + f v ≡ total f l + f w
  total_set [] i v w e = absurd (some-ne-none v (sym e))
  total_set (x ∷ xs) zero v w e = let is : f x ≡ f v = ap f (some-injective x v e) in omega arith
  total_set (x ∷ xs) (suc i) v w e = let r = total_set xs i v w e in omega arith

  pub total_last : (l : List A) (w : A) → total f (l ++ w ∷ []) ≡ total f l + f w
  total_last [] w = omega arith
  total_last (x ∷ xs) w = let r = total_last xs w in omega arith

  pub total_at : (l : List A) (i : ℕ) (v : A) → get_elem? l i ≡ some v → f v ≤ total f l
  total_at [] i v e = absurd (some-ne-none v (sym e))
  total_at (x ∷ xs) zero v e = let is : f x ≡ f v = ap f (some-injective x v e) in omega arith
  total_at (x ∷ xs) (suc i) v e = let r = total_at xs i v e in omega arith

  pub total_two : (l : List A) (i j : ℕ) (v w : A) → i ≢ j → get_elem? l i ≡ some v → get_elem? l j ≡ some w → f v + f w ≤ total f l
  total_two [] i j v w ne e d = absurd (some-ne-none v (sym e))
  total_two (x ∷ xs) zero zero v w ne e d = absurd (ne refl)
  total_two (x ∷ xs) zero (suc j) v w ne e d = let is : f x ≡ f v = ap f (some-injective x v e) in let r = total_at xs j w d in omega arith
  total_two (x ∷ xs) (suc i) zero v w ne e d = let is : f x ≡ f w = ap f (some-injective x w d) in let r = total_at xs i v e in omega arith
  total_two (x ∷ xs) (suc i) (suc j) v w ne e d = let r = total_two xs i j v w (λ p. ne (ap suc p)) e d in omega arith

-- another number in front does not count
pub times_next : (i j : ℕ) (xs : List ℕ) → j ≢ i → times j (i ∷ xs) ≡ times j xs
times_next i j xs ne = times_else i j xs (λ e. ne (sym e))

pub times_last : (i : ℕ) (xs : List ℕ) → times i (xs ++ i ∷ []) ≡ times i xs + 1
times_last i xs = times_append i xs (i ∷ []) ∙ (let h = times_here i [] in omega arith)

pub times_last_else : (i j : ℕ) (xs : List ℕ) → j ≢ i → times j (xs ++ i ∷ []) ≡ times j xs
times_last_else i j xs ne = times_append j xs (i ∷ []) ∙ (let h = times_next i j [] ne in omega arith)

-- a number that is at no place of a list stands in it no time
pub times_none : (i : ℕ) (xs : List ℕ) → ((k : ℕ) → k < length xs → get_or xs k 0 ≢ i) → times i xs ≡ 0
times_none i [] none = refl
times_none i (x ∷ xs) none = times_next x i xs (λ e. none 0 (omega arith) (sym e)) ∙ times_none i xs (λ k lt. none (suc k) (omega arith))

-- to remove the first place of a number is to take it out once
pub removed_is : (i : ℕ) (xs : List ℕ) (p : ℕ) → p < length xs → get_or xs p 0 ≡ i → ((k : ℕ) → k < p → get_or xs k 0 ≢ i) → remove xs p ≡ without i xs
removed_is i [] p lt here first = absurd (omega arith)
removed_is i (x ∷ xs) zero lt here first = subst (λ (y : ℕ). remove (y ∷ xs) 0 ≡ without i (y ∷ xs)) (sym here) (sym (without_here i xs))
removed_is i (x ∷ xs) (suc p) lt here first = ap (λ l. x ∷ l) (removed_is i xs p (omega arith) here (λ k h. first (suc k) (omega arith))) ∙ sym (without_next i x xs (first 0 (omega arith)))

-- what stands in a list below n and nowhere past n is below n
pub stands_below : (i n : ℕ) (xs : List ℕ) → 0 < times i xs → (n ≤ i → times i xs ≡ 0) → i < n
stands_below i n xs has past = elim (dec_le n i) [ yes le ↦ absurd (let h = past le in omega arith) | no not ↦ omega arith ]

-- two lists in which each number stands equally often have one length
pub same_length : (xs ys : List ℕ) → ((i : ℕ) → times i xs ≡ times i ys) → length xs ≡ length ys
same_length [] [] same = refl
same_length [] (y ∷ ys) same = absurd (let e = same y in let h = times_here y ys in omega arith)
same_length (x ∷ xs) ys same = let e = same x in let h = times_here x xs in let l = length_without x ys (omega arith) in let w = times_without x ys (omega arith) in
    let r = same_length xs (without x ys) (λ i. elim (eqb_tells i x) [
      | inl c ↦ subst (λ (k : ℕ). times k xs ≡ times k (without x ys)) (sym c.1) (omega arith)
      | inr c ↦ let a = same i in let b = times_next x i xs c.1 in let d = times_without_else x i ys c.1 in omega arith
    ]) in omega arith
