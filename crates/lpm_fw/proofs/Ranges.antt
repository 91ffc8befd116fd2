-- Addresses of a range, and the prefixes that contain them.
use Rattle.std.proofs.Common.{◌≡◌, ◌≢◌, ◌∙◌, ℕ, ◌+◌, ◌-◌, ◌/◌, ◌^◌, ◌<◌, ◌≤◌, true, false, eqb, nat_eq, refl, sym, ap, arith, subst, List, Some, None, length, Option, ◌⊎◌, inl, inr}
use Rattle.std.proofs.lemmas.Nat.{shr-shr}
use Rattle.std.proofs.lemmas.Bool.{eqb-true}
use Rattle.std.proofs.lemmas.Bool.Decides.{nat_tests}

-- the first bits of an address of a range are those of the range
pub first_bits : (x w free a : ℕ) → w ≤ free → x / 2 ^ w ≡ a → x / 2 ^ free ≡ a / 2 ^ (free - w)
first_bits x w free a less e =
    let sum : w + (free - w) ≡ free = omega arith in
    ap (λ n. x / 2 ^ n) (sym sum) ∙ sym (shr-shr x w (free - w)) ∙ ap (λ n. n / 2 ^ (free - w)) e

pub around : (x to w free a : ℕ) → w ≤ free → to / 2 ^ free ≡ a / 2 ^ (free - w) → x / 2 ^ w ≡ a → nat_eq (x / 2 ^ free) (to / 2 ^ free) ≡ true
around x to w free a less same e =
    let first : x / 2 ^ free ≡ to / 2 ^ free = first_bits x w free a less e ∙ sym same in
    grind (arith, nat_tests)

pub apart_from : (x to w free a : ℕ) → w ≤ free → to / 2 ^ free ≢ a / 2 ^ (free - w) → x / 2 ^ w ≡ a → nat_eq (x / 2 ^ free) (to / 2 ^ free) ≡ false
apart_from x to w free a less differs e =
    let first : x / 2 ^ free ≡ a / 2 ^ (free - w) = first_bits x w free a less e in
    grind (arith, nat_tests)

pub apart_beside : (x to w free a : ℕ) → free < w → to / 2 ^ w ≢ a → x / 2 ^ w ≡ a → nat_eq (x / 2 ^ free) (to / 2 ^ free) ≡ false
apart_beside x to w free a less differs e =
    let first : x / 2 ^ w ≡ (x / 2 ^ free) / 2 ^ (w - free) = first_bits x free w (x / 2 ^ free) (omega arith) refl in
    let second : to / 2 ^ w ≡ (to / 2 ^ free) / 2 ^ (w - free) = first_bits to free w (to / 2 ^ free) (omega arith) refl in
    elim (nat_eq (x / 2 ^ free) (to / 2 ^ free)) as (λ b. nat_eq (x / 2 ^ free) (to / 2 ^ free) ≡ b → b ≡ false) [
      | true ↦ λ h. absurd (
          let same : x / 2 ^ free ≡ to / 2 ^ free = eqb-true _ _ h in
          differs (second ∙ ap (λ n. n / 2 ^ (w - free)) (sym same) ∙ sym first ∙ e))
      | false ↦ λ h. refl
    ] refl
