-- Packets that wait are taken from behind a list that was turned round.
use Rattle.std.proofs.Common.{◌≡◌, ℕ, ◌≤◌, List, [], ◌∷◌, ◌++◌, map, length, reverse, refl, ap, sym, subst, ◌∙◌, append_assoc, append-nil}
use Rattle.std.proofs.lemmas.List.{map-append, reverse-append, reverse-reverse}
use Rattle.packet_owner.specs.Buffer.{BufferModel}
use Rattle.packet_owner.specs.Spare.{SpareModel}
use Rattle.flow_work.specs.Buffers.{AreOut, Recycled}
use Rattle.flow_work.proofs.Buffers.{out_front, out_after}
use Rattle.chain_nodes.proofs.Desks.{more_free}

pub next_waits : {X : Type 0} (w rest new : List X) (x : X) → w ≡ reverse rest → w ≡ new ++ x ∷ [] → rest ≡ x ∷ reverse new
next_waits w rest new x e f = sym (reverse-reverse rest) ∙ (ap reverse (sym e ∙ f) ∙ reverse-append new (x ∷ []))

pub rest_waits : {X : Type 0} (all done rest new : List X) (x : X) → all ≡ done ++ rest → rest ≡ x ∷ reverse new → all ≡ (done ++ x ∷ []) ++ reverse new
rest_waits all done rest new x e f = e ∙ (ap (λ t. done ++ t) f ∙ sym (append_assoc done (x ∷ []) (reverse new)))

module _ {X : Type 0} (buffer : X → BufferModel) where
  pub out_waits : (all done rest new : List X) (x : X) (back₀ back : List BufferModel) (s₀ s : SpareModel) → all ≡ done ++ rest → rest ≡ x ∷ reverse new → AreOut (map buffer all) back₀ s₀ → Recycled (map buffer done) back₀ back s₀ s → AreOut (buffer x ∷ []) back s
  out_waits all done rest new x back₀ back s₀ s e f o r =
      let split : map buffer all ≡ map buffer done ++ (buffer x ∷ map buffer (reverse new)) = ap (map buffer) (e ∙ ap (λ t. done ++ t) f) ∙ map-append buffer done (x ∷ reverse new) in
      out_front (buffer x ∷ []) (map buffer (reverse new)) back s (out_after (map buffer done) (buffer x ∷ map buffer (reverse new)) back₀ back s₀ s (subst (λ bs. AreOut bs back₀ s₀) split o) r)

-- a place serves on, once buffers came to rest
pub serves_on : {N : Type 0} (serves : N → ℕ → ℕ → ℕ → Type 0) → ((n : N) (count bytes free all : ℕ) → free ≤ all → serves n count bytes free → serves n count bytes all)
    → (n : N) (bs back back' : List BufferModel) (s s' : SpareModel) → Recycled bs back back' s s' → serves n s.count s.bytes (length s.free) → serves n s'.count s'.bytes (length s'.free)
serves_on serves more n bs back back' s s' r h =
    subst (λ (b : ℕ). serves n s'.count b (length s'.free)) (sym r.bytes)
    (subst (λ (c : ℕ). serves n c s.bytes (length s'.free)) (sym r.count) (more n s.count s.bytes (length s.free) (length s'.free) (more_free bs back back' s s' r) h))
