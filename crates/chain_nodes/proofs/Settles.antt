-- Buffers come to rest one by one, from behind.
use Rattle.std.proofs.Common.{◌≡◌, ℕ, ◌+◌, List, [], ◌∷◌, ◌++◌, map, flat_map, Option, Some, None, cond, min, slice_index, ◌<◌, refl, ap, sym, subst, ◌∙◌, arith, append_assoc}
use Rattle.std.proofs.lemmas.List.{map-append}
use Rattle.std.specs.List.{count_by}
use Rattle.std.specs.List.Sorted.{IsPermutation}
use Rattle.std.proofs.lemmas.List.Sorted.{IsPermutation-trans, IsPermutation-sym, IsPermutation-append_comm, IsPermutation-append_right, IsPermutation-to_front}
use Rattle.brick_spec.specs.Item.{Item}
use Rattle.brick_spec.specs.FlowStage.{Drop}
use Rattle.brick_base.specs.declared.drops.Reason.{Reason}
use Rattle.packet_owner.specs.Buffer.{BufferModel}
use Rattle.packet_owner.specs.Packet.{packet_item}
use Rattle.packet_owner.specs.Spare.{SpareModel}
use Rattle.batch_ops.specs.declared.outlet.Dropped.{Dropped}
use Rattle.batch_ops.specs.Outlet.{drops_of, drop_for}
use Rattle.batch_ops.proofs.Calls.{same_order}
use Rattle.flow_work.specs.Meaning.{is_for}
use Rattle.flow_work.specs.Buffers.{AreOut, Recycled}
use Rattle.flow_work.specs.Log.{CountsMore}
use Rattle.flow_work.proofs.Buffers.{out_perm, out_front, out_after, recycled_perm, recycled_both}
use Rattle.flow_work.proofs.Logs.{counts_front}
use Rattle.chain_nodes.specs.Desk.{counted}

module _ {X : Type 0} (buffer : X → BufferModel) where
  pub out_next : (all left done : List X) (x : X) (l : List X) (back₀ back : List BufferModel) (s₀ s : SpareModel) → all ≡ l ++ done → l ≡ left ++ x ∷ [] → AreOut (map buffer all) back₀ s₀ → Recycled (map buffer done) back₀ back s₀ s
      → AreOut (buffer x ∷ []) back s
  out_next all left done x l back₀ back s₀ s e f o r =
      let whole : map buffer all ≡ (map buffer left ++ buffer x ∷ []) ++ map buffer done = ap (map buffer) (e ∙ ap (λ t. t ++ done) f) ∙ (map-append buffer (left ++ x ∷ []) done ∙ ap (λ t. t ++ map buffer done) (map-append buffer left (x ∷ []))) in
      let moved : IsPermutation (map buffer all) (map buffer done ++ (buffer x ∷ map buffer left)) =
      IsPermutation-trans _ _ _ (same_order _ _ whole) (IsPermutation-trans _ _ _ (IsPermutation-append_comm (map buffer left ++ buffer x ∷ []) (map buffer done)) (IsPermutation-append_right (map buffer done) _ _ (IsPermutation-to_front (map buffer left) (buffer x)))) in
      out_front (buffer x ∷ []) (map buffer left) back s (out_after (map buffer done) (buffer x ∷ map buffer left) back₀ back s₀ s (out_perm _ _ back₀ s₀ moved o) r)

  pub recycled_next : (done : List X) (x : X) (back₀ back₁ back₂ : List BufferModel) (s₀ s₁ s₂ : SpareModel) → Recycled (map buffer done) back₀ back₁ s₀ s₁ → Recycled (buffer x ∷ []) back₁ back₂ s₁ s₂ → Recycled (map buffer (x ∷ done)) back₀ back₂ s₀ s₂
  recycled_next done x back₀ back₁ back₂ s₀ s₁ s₂ a b =
      recycled_perm _ _ back₀ back₂ s₀ s₂ (IsPermutation-sym _ _ (IsPermutation-to_front (map buffer done) (buffer x))) (recycled_both (map buffer done) (buffer x ∷ []) back₀ back₁ back₂ s₀ s₁ s₂ a b)

  pub popped_whole : (all left done : List X) (x : X) (l : List X) → all ≡ l ++ done → l ≡ left ++ x ∷ [] → all ≡ left ++ (x ∷ done)
  popped_whole all left done x l e f = e ∙ (ap (λ t. t ++ done) f ∙ append_assoc left (x ∷ []) done)

counted_is : (k : ℕ) (r : Option Reason) (i : Item) → counted k r ≡ count_by (is_for k) (drop_for r i)
counted_is k None i = refl
counted_is k (Some r) i = omega arith

pub one_counted : (old new : List ℕ) (d : Dropped) → ((k : ℕ) → k < 9 → slice_index new k ≡ min 4294967295 (slice_index old k + counted k d.reason)) → CountsMore old new (drops_of d)
one_counted old new d h k l low = h k l ∙ ap (λ n. min 4294967295 (slice_index old k + n)) (counted_is k d.reason (packet_item d.packet))

pub counts_next : (old mid new : List ℕ) (done : List Dropped) (d : Dropped) → CountsMore old mid (flat_map drops_of done) → ((k : ℕ) → k < 9 → slice_index new k ≡ min 4294967295 (slice_index mid k + counted k d.reason)) → CountsMore old new (flat_map drops_of (d ∷ done))
counts_next old mid new done d a b = counts_front old mid new (drops_of d) (flat_map drops_of done) a (one_counted mid new d b)
