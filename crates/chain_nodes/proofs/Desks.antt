-- Calls of places, one after another, with one desk.
use Rattle.std.proofs.Common.{◌≡◌, ℕ, ◌+◌, ◌≤◌, List, [], ◌∷◌, ◌++◌, map, flat_map, length, Bool, true, false, Option, Some, None, Result, Ok, Err, OnOk, refl, ap, sym, subst, ◌∙◌, arith, append-nil, append_assoc, length-append}
use Rattle.std.proofs.lemmas.List.{map-append}
use Rattle.std.proofs.lemmas.List.Sorted.{length_permutation}
use Rattle.std.specs.Prelude.{⊤}
use Rattle.brick_spec.specs.Flow.{Flow}
use Rattle.brick_spec.specs.Item.{Item}
use Rattle.brick_spec.specs.FlowStage.{FlowItem, FlowInput}
use Rattle.brick_base.specs.declared.memory.NoMemory.{NoMemory}
use Rattle.packet_owner.specs.Buffer.{BufferModel}
use Rattle.batch_ops.specs.declared.outlet.Outlet.{Outlet}
use Rattle.batch_ops.specs.Outlet.{IsEmptied}
use Rattle.batch_ops.proofs.Calls.{joined, on_ok_joined}
use Rattle.flow_spec.specs.Parts.{Parts}
use Rattle.flow_work.specs.Meaning.{Meaning}
use Rattle.flow_work.specs.Node.{Went, IsNode, parts_both}
use Rattle.flow_work.specs.Log.{CountsMore}
use Rattle.packet_owner.specs.Spare.{SpareModel}
use Rattle.flow_work.specs.Buffers.{lent_of, AreOut, Recycled}
use Rattle.flow_work.proofs.Nodes.{went_nothing, went_both, none_made}
use Rattle.flow_work.proofs.Logs.{counts_none, counts_both}
use Rattle.flow_work.proofs.Buffers.{recycled_none, recycled_both, out_after}
use Rattle.chain_nodes.specs.declared.desk.Desk.{Desk}
use Rattle.chain_nodes.specs.Desk.{SameLists}
use Rattle.chain_nodes.specs.Node.{Took}

pub same_emptied : (old new : Outlet) → SameLists old new → IsEmptied old → IsEmptied new
same_emptied old new l e = record { passed = ap (λ v. v.items) l.passed ∙ e.passed; dropped = ap (λ v. v.items) l.dropped ∙ e.dropped; consumed = ap (λ v. v.items) l.consumed ∙ e.consumed }

-- as many lie ready as before, or more
pub more_free : (bs back back' : List BufferModel) (old new : SpareModel) → Recycled bs back back' old new → length old.free ≤ length new.free
more_free bs back back' old new r = let e = length_permutation _ _ r.lent in let l = length-append (lent_of bs) old.free in omega arith

module _ {N : Type 0} (stands : N → Flow → FlowInput → Parts → Type 0) (makes : N → Meaning) (results : N → List (List Item)) (serves : N → ℕ → ℕ → ℕ → Type 0) where
  pub took_nothing : (n : N) (flow : Flow) (d : Desk) → IsEmptied d.out → Took stands makes results serves n n flow [] [] None d d (Ok tt)
  took_nothing n flow d e = record {
    went = (none_made (results n), went_nothing stands makes results n flow, counts_none d.counts);
    recycled = recycled_none d.back d.out.spare;
    emptied = e;
    stays = λ count bytes free is was. was;
    same = refl;
    many = refl;
  }

  pub took_both : IsNode stands makes results → (old mid new : N) (flow : Flow) (as' bs : List BufferModel) (items₁ items₂ : List FlowItem) (ended : Option ℕ) (d₀ d₁ d₂ : Desk) (r₁ r₂ : Result ⊤ NoMemory)
      → Took stands makes results serves old mid flow as' items₁ None d₀ d₁ r₁ → Took stands makes results serves mid new flow bs items₂ ended d₁ d₂ r₂
      → Took stands makes results serves old new flow (as' ++ bs) (items₁ ++ items₂) ended d₀ d₂ (joined r₁ r₂)
  took_both node old mid new flow as' bs items₁ items₂ ended d₀ d₁ d₂ r₁ r₂ one two = record {
    went = on_ok_joined r₁ r₂ _ _ _
        (λ (x : (added : Parts) × Went stands makes results old mid flow items₁ None added × CountsMore d₀.counts d₁.counts added.dropped)
        (y : (added : Parts) × Went stands makes results mid new flow items₂ ended added × CountsMore d₁.counts d₂.counts added.dropped). (
          parts_both x.0 y.0,
          went_both stands makes results node old mid new flow items₁ items₂ ended x.0 y.0 x.1 y.1,
          counts_both d₀.counts d₁.counts d₂.counts x.0.dropped y.0.dropped x.2 y.2,
        )) one.went two.went;
    recycled = recycled_both as' bs d₀.back d₁.back d₂.back d₀.out.spare d₁.out.spare d₂.out.spare one.recycled two.recycled;
    emptied = two.emptied;
    stays = λ count bytes free is was. two.stays count bytes free (is ∙ sym one.recycled.count) (one.stays count bytes free is was);
    same = two.same ∙ one.same;
    many = two.many ∙ one.many;
  }

  pub took_as : (old new : N) (flow : Flow) (as' bs : List BufferModel) (items₁ items₂ : List FlowItem) (ended : Option ℕ) (d₀ d₁ : Desk) (r₁ r₂ : Result ⊤ NoMemory)
      → as' ≡ bs → items₁ ≡ items₂ → r₁ ≡ r₂ → Took stands makes results serves old new flow as' items₁ ended d₀ d₁ r₁ → Took stands makes results serves old new flow bs items₂ ended d₀ d₁ r₂
  took_as old new flow as' bs items₁ items₂ ended d₀ d₁ r₁ r₂ e f g t =
      subst (λ (r : Result ⊤ NoMemory). Took stands makes results serves old new flow bs items₂ ended d₀ d₁ r) g
      (subst (λ (is : List FlowItem). Took stands makes results serves old new flow bs is ended d₀ d₁ r₁) f
      (subst (λ (cs : List BufferModel). Took stands makes results serves old new flow cs items₁ ended d₀ d₁ r₁) e t))

-- nothing is on its way any more
pub out_none : (bs back back' : List BufferModel) (s s' : SpareModel) → AreOut bs back s → Recycled bs back back' s s' → AreOut [] back' s'
out_none bs back back' s s' o r = out_after bs [] back back' s s' (subst (λ (cs : List BufferModel). AreOut cs back s) (sym (append-nil bs)) o) r
