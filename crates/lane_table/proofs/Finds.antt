-- A view's counts, which have no last value, as counts of 64 bits.
use Rattle.std.proofs.Common.{◌≡◌, ℕ, zero, suc, ◌<◌, ◌≤◌, List, [], ◌∷◌, map, length, get_or, refl, sym, ap, ◌∙◌, subst, arith}
use Rattle.std.proofs.lemmas.List.{length-map}
use native.Mathlib.Decide.{dec_le}
use Rattle.brick_spec.specs.Cause.{Rose}
use Rattle.lane_core.specs.Seats.{NoneFell, AllRose, IsLater}
use Rattle.lane_table.specs.Seats.{capped}

pub capped_at : (xs : List ℕ) (i : ℕ) → get_or (map capped xs) i 0 ≡ capped (get_or xs i 0)
capped_at [] i = omega arith
capped_at (x ∷ xs) zero = refl
capped_at (x ∷ xs) (suc i) = capped_at xs i

pub later : (a b : ℕ) → a ≤ b → IsLater (capped a) (capped b)
later a b le = record { later = omega arith; last = λ e. omega arith }

pub rises : (a b : ℕ) → a < b → Rose (capped a) (capped b)
rises a b lt = omega arith

pub none_fell : (before now : List ℕ) → length now ≡ length before → ((i : ℕ) → get_or before i 0 ≤ get_or now i 0) → NoneFell (map capped before) (map capped now)
none_fell before now count each = record {
  count = length-map now capped ∙ count ∙ sym (length-map before capped);
  later = λ i. let a = capped_at before i in let b = capped_at now i in let l = (later (get_or before i 0) (get_or now i 0) (each i)).later in omega arith;
}

pub all_rose : (before now : List ℕ) → ((i : ℕ) → i < length before → get_or before i 0 < get_or now i 0) → AllRose (map capped before) (map capped now)
all_rose before now each i lt = let a = capped_at before i in let b = capped_at now i in let l = length-map before capped in let r = rises (get_or before i 0) (get_or now i 0) (each i (omega arith)) in
    rose_at (get_or (map capped before) i 0) (get_or (map capped now) i 0) a b r where
      rose_at : (x y : ℕ) → x ≡ capped (get_or before i 0) → y ≡ capped (get_or now i 0) → Rose (capped (get_or before i 0)) (capped (get_or now i 0)) → Rose x y
      rose_at x y e d r = subst (λ (p : ℕ × ℕ). Rose p.0 p.1) (λ j. (sym e j, sym d j)) r

pub same_finds : (xs : List ℕ) → NoneFell (map capped xs) (map capped xs)
same_finds xs = none_fell xs xs refl (λ i. omega arith)

-- counts of which the first n rose, and the others stayed
pub rose_first : (before mid now : List ℕ) (n : ℕ) → now ≡ mid → length mid ≡ length before → ((j : ℕ) → j < n → get_or before j 0 < get_or mid j 0) → ((j : ℕ) → n ≤ j → get_or mid j 0 ≡ get_or before j 0)
    → NoneFell (map capped before) (map capped now)
rose_first before mid now n is count rose rest = none_fell before now (ap (λ (l : List ℕ). length l) is ∙ count) (λ j. let e = ap (λ (l : List ℕ). get_or l j 0) is in elim (dec_le n j) [ yes le ↦ (let r = rest j le in omega arith) | no not ↦ (let r = rose j (omega arith) in omega arith) ])
