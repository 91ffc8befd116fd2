-- Sums over rings of which one changes, and where the cells of two rings lie.
use Rattle.std.proofs.Common.{◌≡◌, ◌≢◌, ◌⊎◌, ℕ, zero, suc, ◌+◌, ◌*◌, ◌<◌, ◌≤◌, List, [], ◌∷◌, ◌++◌, drop, length, sym, refl, ap, subst, inl, inr, arith, mul-le-mul_right, suc-mul}
use mathlib.Core.Logic.{dite}
use native.Mathlib.Decide.{ℕ_discrete, dec_le}
use mathlib.Core.Option.{some, some-injective, some-ne-none}
use lib.ListN.{get_elem?}
use Rattle.lane_spec.specs.Counts.{times}
use Rattle.lane_spec.specs.Pairs.{Pair, slots_of}
use Rattle.lane_table.specs.Rule.{base_of, rest_at, in_rings}
use Rattle.lane_core.proofs.Counting.{times_here}

module _ (sent received sent' received' : List (List Pair)) (i : ℕ) where
  pub rings_same : (W : ℕ) → ((x : ℕ) → x < W → rest_at sent' received' x ≡ rest_at sent received x) → in_rings sent' received' i W ≡ in_rings sent received i W
  rings_same zero same = refl
  rings_same (suc W) same = let r = rings_same W (λ x lt. same x (omega arith)) in let e = ap (λ l. times i (slots_of l)) (same W (omega arith)) in omega arith

  -- where the rest of one ring changes, its term changes alone
  pub rings_move : (W w : ℕ) → w < W → ((x : ℕ) → x ≢ w → rest_at sent' received' x ≡ rest_at sent received x)
      → in_rings sent' received' i W + times i (slots_of (rest_at sent received w)) ≡ in_rings sent received i W + times i (slots_of (rest_at sent' received' w))
  rings_move zero w lt same = absurd (omega arith)
  rings_move (suc W) w lt same = dite (ℕ_discrete w W)
      (λ e. subst (λ (k : ℕ). in_rings sent' received' i (suc W) + times i (slots_of (rest_at sent received k)) ≡ in_rings sent received i (suc W) + times i (slots_of (rest_at sent' received' k))) (sym e)
      (let r = rings_same W (λ x lt'. same x (λ e'. absurd (omega arith))) in omega arith))
      (λ ne. let r = rings_move W w (omega arith) same in let e = ap (λ l. times i (slots_of l)) (same W (λ e'. ne (sym e'))) in omega arith)

  pub ring_at : (W w : ℕ) → w < W → times i (slots_of (rest_at sent received w)) ≤ in_rings sent received i W
  ring_at zero w lt = absurd (omega arith)
  ring_at (suc W) w lt = dite (ℕ_discrete w W)
      (λ e. subst (λ (k : ℕ). times i (slots_of (rest_at sent received k)) ≤ in_rings sent received i (suc W)) (sym e) (omega arith))
      (λ ne. let r = ring_at W w (omega arith) in omega arith)

  pub ring_two : (W w x : ℕ) → w < W → x < W → w ≢ x → times i (slots_of (rest_at sent received w)) + times i (slots_of (rest_at sent received x)) ≤ in_rings sent received i W
  ring_two zero w x lt lt' ne = absurd (omega arith)
  ring_two (suc W) w x lt lt' ne = dite (ℕ_discrete w W)
      (λ e. subst (λ (k : ℕ). times i (slots_of (rest_at sent received k)) + times i (slots_of (rest_at sent received x)) ≤ in_rings sent received i (suc W)) (sym e) (let r = ring_at W x (omega arith) in omega arith))
      (λ ne'. dite (ℕ_discrete x W)
      (λ e. subst (λ (k : ℕ). times i (slots_of (rest_at sent received w)) + times i (slots_of (rest_at sent received k)) ≤ in_rings sent received i (suc W)) (sym e) (let r = ring_at W w (omega arith) in omega arith))
      (λ ne''. let r = ring_two W w x (omega arith) (omega arith) ne in omega arith))

further : (x y n : ℕ) → x < y → x * n + n ≤ y * n
further x y n h = let a : suc x * n ≤ y * n = mul-le-mul_right n h in omega (arith, suc-mul x n)

-- a cell of ring w is no cell of ring x
pub elsewhere : (n w x c : ℕ) → c < n + 1 → x ≢ w → (base_of n w + c < base_of n x) ⊎ (base_of n x + (n + 1) ≤ base_of n w + c)
elsewhere n w x c lt ne = elim (dec_le x w) [
  | yes le ↦ inr (let f = further x w (n + 1) (omega arith) in omega arith)
  | no not ↦ inl (let f = further w x (n + 1) (omega arith) in omega arith)
]

-- the cells of each ring are among the words
pub within : (n w W c : ℕ) → c < n + 1 → w < W → base_of n w + c < n + W * (n + 1)
within n w W c lt less = let f = further w W (n + 1) less in omega arith

pub drop_left : (n : ℕ) (xs ys : List Pair) → n ≤ length xs → drop n (xs ++ ys) ≡ drop n xs ++ ys
drop_left zero xs ys le = refl
drop_left (suc n) [] ys le = absurd (omega arith)
drop_left (suc n) (x ∷ xs) ys le = drop_left n xs ys (omega arith)

pub slots_last : (xs : List Pair) (p : Pair) → slots_of (xs ++ p ∷ []) ≡ slots_of xs ++ p.0 ∷ []
slots_last [] p = refl
slots_last (x ∷ xs) p = ap (λ l. x.0 ∷ l) (slots_last xs p)

pub length_slots : (xs : List Pair) → length (slots_of xs) ≡ length xs
length_slots [] = refl
length_slots (x ∷ xs) = ap suc (length_slots xs)

slot_stands : (τ : ℕ) (xs : List Pair) (q : Pair) → get_elem? xs τ ≡ some q → 0 < times q.0 (slots_of xs)
slot_stands τ [] q e = absurd (some-ne-none q (sym e))
slot_stands zero (x ∷ xs) q e = subst (λ (y : Pair). 0 < times y.0 (slots_of (x ∷ xs))) (some-injective x q e) (let h = times_here x.0 (slots_of xs) in omega arith)
slot_stands (suc τ) (x ∷ xs) q e = let h = slot_stands τ xs q e in omega arith

-- the slot of a pair that was sent and not received stands in the rest
pub in_rest : (n τ : ℕ) (xs : List Pair) (q : Pair) → n ≤ τ → get_elem? xs τ ≡ some q → 0 < times q.0 (slots_of (drop n xs))
in_rest zero τ xs q le e = slot_stands τ xs q e
in_rest (suc n) τ [] q le e = absurd (some-ne-none q (sym e))
in_rest (suc n) zero (x ∷ xs) q le e = absurd (omega arith)
in_rest (suc n) (suc τ) (x ∷ xs) q le e = in_rest n τ xs q (omega arith) e
