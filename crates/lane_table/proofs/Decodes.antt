-- A word of a cell names its ring, and an entry its slot and its number.
use Rattle.std.proofs.Common.{◌≡◌, ℕ, ◌+◌, ◌-◌, ◌*◌, ◌/◌, ◌%◌, ◌<◌, ap, ◌∙◌, arith, mod-eq_of_lt}
use Rattle.std.proofs.Math.Nat.{mul-add-mod_self_left}
use Rattle.std.proofs.lemmas.Nat.{div-mul-add}
use Rattle.lane_table.specs.Cells.{entry_word}
use Rattle.lane_table.specs.Rule.{base_of}
use Rattle.lane_table.specs.Steps.{ring_in, slot_in, number_in}

pub ring_is : (n w c : ℕ) → c < n + 1 → ring_in n (base_of n w + c) ≡ w
ring_is n w c lt = ap (λ (k : ℕ). k / (n + 1)) (let e : n + w * (n + 1) + c - n ≡ w * (n + 1) + c = omega arith in e) ∙ div-mul-add w (n + 1) c lt

pub slot_is : (i k : ℕ) → i < 2048 → slot_in (entry_word (i, k)) ≡ i
slot_is i k lt = ap (λ (x : ℕ). x % 2048) (let e : 2048 * k + i + 1 - 1 ≡ 2048 * k + i = omega arith in e) ∙ mul-add-mod_self_left 2048 k i ∙ mod-eq_of_lt lt

pub number_is : (i k : ℕ) → i < 2048 → number_in (entry_word (i, k)) ≡ k
number_is i k lt = ap (λ (x : ℕ). x / 2048) (let e : 2048 * k + i + 1 - 1 ≡ k * 2048 + i = omega arith in e) ∙ div-mul-add k 2048 i lt
