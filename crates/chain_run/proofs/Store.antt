-- A store of which all buffers lie ready.
use Rattle.std.proofs.Common.{◌≡◌, ℕ, zero, suc, length, refl, ap, sym, subst}
use Rattle.packet_owner.specs.Spare.{SpareModel, slots_from}

slots_long : (first n : ℕ) → length (slots_from first n) ≡ n
slots_long first zero = refl
slots_long first (suc n) = ap suc (slots_long (suc first) n)

pub store_serves : {N : Type 0} (serves : N → ℕ → ℕ → ℕ → Type 0) (n : N) (count bytes : ℕ) (s : SpareModel) → s ≡ record { count = count; bytes = bytes; free = slots_from 1024 count } → serves n count bytes count → serves n s.count s.bytes (length s.free)
store_serves serves n count bytes s e h =
    subst (λ (t : SpareModel). serves n t.count t.bytes (length t.free)) (sym e) (subst (λ (k : ℕ). serves n count bytes k) (sym (slots_long 1024 count)) h)
