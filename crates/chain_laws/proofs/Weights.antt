-- Weights of items by their keys, for one key (a, j).
use Rattle.std.proofs.Common.{◌≡◌, ℕ, suc, ◌+◌, ◌≤◌, Bool, true, false, cond, nat_eq, nat_le, refl, arith}
use Rattle.std.proofs.lemmas.Bool.Decides.{nat_tests}
use Rattle.brick_spec.specs.FlowStage.{FlowItem}
use Rattle.brick_spec.specs.Item.{Item}

-- a weight of each key
abbrev pub Weight : Type 0
Weight = ℕ → ℕ → ℕ

abbrev pub weight : Weight → FlowItem → ℕ
weight w x = w x.item.a x.item.j

abbrev pub item_weight : Weight → Item → ℕ
item_weight w i = w i.a i.j

-- 1 for the key (a, j)
abbrev pub hit : ℕ → ℕ → Weight
hit a j b k = cond (nat_eq b a) (cond (nat_eq k j) 1 0) 0

-- as many items of the key (a, j) as a window may make of one of this key
abbrev pub early : ℕ → Weight
early a b k = cond (nat_eq b a) (cond (nat_eq k 0) 1 2) 0

-- 1 for a key (a, k) where (a, j) stands at or behind it
abbrev pub up_from : ℕ → ℕ → Weight
up_from a j b k = cond (nat_eq b a) (cond (nat_le k j) 1 0) 0

pub hit_early : (a j b k : ℕ) → hit a j b k ≤ early a b k
hit_early a j b k = split (nat_eq b a) (nat_eq k j) (nat_eq k 0) where
  split : (p q r : Bool) → cond p (cond q 1 0) 0 ≤ cond p (cond r 1 2) 0
  split false q r = omega arith
  split true false r = omega arith
  split true true true = omega arith
  split true true false = omega arith

pub at_and_behind : (j k : ℕ) → cond (nat_eq k j) 1 0 + cond (nat_le (suc k) j) 1 0 ≤ cond (nat_le k j) 1 0
at_and_behind j k = split (nat_eq k j) (nat_le (suc k) j) (nat_le k j) refl refl refl where
  no_both : nat_eq k j ≡ true → nat_le (suc k) j ≡ true → ⊥
  no_both e f = grind (arith, nat_tests)

  no_first : nat_eq k j ≡ true → nat_le k j ≡ false → ⊥
  no_first e f = grind (arith, nat_tests)

  no_second : nat_le (suc k) j ≡ true → nat_le k j ≡ false → ⊥
  no_second e f = grind (arith, nat_tests)

  split : (p q r : Bool) → nat_eq k j ≡ p → nat_le (suc k) j ≡ q → nat_le k j ≡ r → cond p 1 0 + cond q 1 0 ≤ cond r 1 0
  split true true r e f g = absurd (no_both e f)
  split true false true e f g = omega arith
  split true false false e f g = absurd (no_first e g)
  split false true true e f g = omega arith
  split false true false e f g = absurd (no_second f g)
  split false false r e f g = omega arith

pub hit_and_behind : (a j b k : ℕ) → hit a j b k + up_from a j b (suc k) ≤ up_from a j b k
hit_and_behind a j b k = split (nat_eq b a) where
  split : (p : Bool) → cond p (cond (nat_eq k j) 1 0) 0 + cond p (cond (nat_le (suc k) j) 1 0) 0 ≤ cond p (cond (nat_le k j) 1 0) 0
  split true = at_and_behind j k
  split false = omega arith

-- an item, and those from (b, 1) on
pub hit_and_windows : (a j b k : ℕ) → hit a j b k + up_from a j b 1 ≤ early a b k
hit_and_windows a j b k = split (nat_eq b a) (nat_eq k j) (nat_le 1 j) (nat_eq k 0) refl refl refl where
  no_both : nat_eq k j ≡ true → nat_le 1 j ≡ true → nat_eq k 0 ≡ true → ⊥
  no_both e f g = grind (arith, nat_tests)

  split : (p q r s : Bool) → nat_eq k j ≡ q → nat_le 1 j ≡ r → nat_eq k 0 ≡ s → cond p (cond q 1 0) 0 + cond p (cond r 1 0) 0 ≤ cond p (cond s 1 2) 0
  split false q r s e f g = omega arith
  split true true true true e f g = absurd (no_both e f g)
  split true true true false e f g = omega arith
  split true true false true e f g = omega arith
  split true true false false e f g = omega arith
  split true false true true e f g = omega arith
  split true false true false e f g = omega arith
  split true false false true e f g = omega arith
  split true false false false e f g = omega arith

-- the rests of a flow, of the keys (b, 0) and (b, 1)
pub two_hits : (a j b : ℕ) → hit a j b 0 + hit a j b 1 ≤ cond (nat_eq b a) 1 0
two_hits a j b = split (nat_eq b a) (nat_eq 0 j) (nat_eq 1 j) refl refl where
  no_both : nat_eq 0 j ≡ true → nat_eq 1 j ≡ true → ⊥
  no_both e f = grind (arith, nat_tests)

  split : (p q r : Bool) → nat_eq 0 j ≡ q → nat_eq 1 j ≡ r → cond p (cond q 1 0) 0 + cond p (cond r 1 0) 0 ≤ cond p 1 0
  split false q r e f = omega arith
  split true true true e f = absurd (no_both e f)
  split true true false e f = omega arith
  split true false true e f = omega arith
  split true false false e f = omega arith

pub hit_itself : (a j : ℕ) → hit a j a j ≡ 1
hit_itself a j = split (nat_eq a a) (nat_eq j j) (same a) (same j) where
  same : (m : ℕ) → nat_eq m m ≡ true
  same m = grind (arith, nat_tests)

  split : (p q : Bool) → p ≡ true → q ≡ true → ◌≡◌ {A = ℕ} (cond p (cond q 1 0) 0) 1
  split true true e f = refl
  split true false e f = cc
  split false q e f = cc
