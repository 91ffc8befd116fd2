-- Packets that wait, and buffers that lie ready.
use Rattle.std.proofs.Common.{◌≡◌, ℕ, List, [], ◌∷◌, ◌++◌, map, ap, sym, ◌∙◌}
use Rattle.std.proofs.lemmas.List.{map-append, append_assoc}
use Rattle.std.specs.List.{AllByRecursion}
use Rattle.std.proofs.lemmas.List.Elements.{All-from_recursion, recursion_from_All}
use Rattle.std.proofs.lemmas.List.Sorted.{All-permutation}
use Rattle.std.specs.List.Sorted.{IsPermutation}
use Rattle.flow_spec.specs.Answer.{ClassedItem}
use Rattle.flow_work.specs.Buffers.{work_buffer}
use Rattle.packet_owner.specs.Buffer.{BufferModel}
use Rattle.batch_ops.specs.declared.batch.Work.{Work}
use Rattle.work_core.specs.Classed.{classed}
use Rattle.tenant_run.specs.Turns.{IsOf, AreOf}

pub all_both : {X : Type 0} (P : X → Type 0) (xs ys : List X) → AllByRecursion P xs → AllByRecursion P ys → AllByRecursion P (xs ++ ys)
all_both P [] ys h k = k
all_both P (x ∷ xs) ys (h, hs) k = (h, all_both P xs ys hs k)

pub buffers_of_works : (room : ℕ) (ws : List Work) → AllByRecursion (λ (w : Work). IsOf room (work_buffer w)) ws → AreOf room (map work_buffer ws)
buffers_of_works room [] h = tt
buffers_of_works room (w ∷ ws) (h, hs) = (h, buffers_of_works room ws hs)

pub shuffled_are : (room : ℕ) (xs ys : List BufferModel) → IsPermutation xs ys → AreOf room xs → AreOf room ys
shuffled_are room xs ys h all = recursion_from_All (IsOf room) ys (All-permutation (IsOf room) xs ys h (All-from_recursion (IsOf room) xs all))

pub waited : (list done : List ClassedItem) (batch new : List Work) (w : Work) (x : ClassedItem) → list ≡ done ++ map classed batch → new ≡ batch ++ w ∷ [] → classed w ≡ x → list ++ x ∷ [] ≡ done ++ map classed new
waited list done batch new w x e n c =
    ap (λ xs. xs ++ x ∷ []) e ∙ (append_assoc done (map classed batch) (x ∷ [])
    ∙ ((λ i. done ++ (map classed batch ++ sym c i ∷ [])) ∙ (ap (λ ys. done ++ ys) (sym (map-append classed batch (w ∷ []))) ∙ ap (λ ws. done ++ map classed ws) (sym n))))
