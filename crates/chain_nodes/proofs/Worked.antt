-- A tenant's work, packet after packet.
use Rattle.std.proofs.Common.{◌≡◌, ℕ, ◌+◌, ◌≤◌, List, [], ◌∷◌, ◌++◌, map, length, Bool, true, false, Option, Some, None, Result, Ok, Err, OnOk, refl, ap, sym, subst, ◌∙◌, arith, append-nil, append_assoc}
use Rattle.std.proofs.lemmas.List.{map-append, length-map}
use Rattle.std.specs.List.{AllByRecursion}
use Rattle.std.specs.List.Sorted.{IsPermutation}
use Rattle.std.specs.Prelude.{⊤}
use Rattle.std.specs.Result.{is_err}
use Rattle.brick_spec.specs.Flow.{Flow}
use Rattle.brick_spec.specs.Item.{Item}
use Rattle.brick_spec.specs.FlowStage.{FlowItem, FlowInput}
use Rattle.brick_base.specs.Flow.{flow_of}
use Rattle.brick_base.specs.declared.memory.NoMemory.{NoMemory}
use Rattle.packet_owner.specs.Buffer.{BufferModel}
use Rattle.packet_owner.specs.Spare.{SpareModel, AreSlots}
use Rattle.batch_ops.specs.declared.batch.Work.{Work}
use Rattle.batch_ops.specs.Outlet.{IsEmptied, buffer_of}
use Rattle.batch_ops.specs.Operator.{work_item}
use Rattle.batch_ops.proofs.Calls.{joined}
use Rattle.flow_spec.specs.Parts.{Parts}
use Rattle.flow_spec.specs.Answer.{ClassedItem, with_flow, flows_of}
use Rattle.flow_work.specs.Meaning.{Meaning}
use Rattle.flow_work.specs.Node.{Went, IsNode}
use Rattle.flow_work.specs.Log.{Entry, EndedFor, CountsMore}
use Rattle.flow_work.specs.Buffers.{is_own, own_of, lent_of, AreOut, Recycled, work_buffer}
use Rattle.flow_work.proofs.Buffers.{slots_perm, all_own, own_back, recycled_none, recycled_both, out_perm}
use Rattle.flow_work.proofs.Logs.{GoneBy, stands_more}
use Rattle.flow_work.proofs.Flows.{flows_more}
use Rattle.chain_nodes.specs.declared.desk.Desk.{Desk}
use Rattle.chain_nodes.specs.declared.work.NodeWork.{NodeWork}
use Rattle.chain_nodes.specs.Desk.{SameLists}
use Rattle.chain_nodes.specs.Node.{Took}
use Rattle.chain_nodes.specs.Flows.{AreSeen, flows_in}
use Rattle.chain_nodes.specs.Work.{work_stands, work_makes, work_results, work_counts, StandsFor, IsReady, Handled, Turned}
use Rattle.work_core.specs.Classed.{classed}
use Rattle.chain_nodes.proofs.Desks.{same_emptied, out_none, more_free}
use Rattle.chain_nodes.proofs.Waits.{serves_on}

slots_then : (bs back back' : List BufferModel) (s s' : SpareModel) → AreOut bs back s → Recycled bs back back' s s' → AreSlots s'.count s'.free
slots_then bs back back' s s' o r = (out_none bs back back' s s' o r).slots

true_or : (b : Bool) → b ≡ true → b ≡ false → ⊥
true_or b p q = cc

both_fine : (r₁ r₂ : Result ⊤ NoMemory) (b : Bool) (A B : Type 0) → b ≡ is_err (joined r₁ r₂) → b ≡ false → OnOk r₁ A → OnOk r₂ B → A × B
both_fine (Ok x) (Ok y) b A B e f h k = (h, k)
both_fine (Err x) (Ok y) b A B e f h k = absurd (true_or b e f)
both_fine (Ok x) (Err y) b A B e f h k = absurd (true_or b e f)
both_fine (Err x) (Err y) b A B e f h k = absurd (true_or b e f)

module _ {N : Type 0} (stands : N → Flow → FlowInput → Parts → Type 0) (makes : N → Meaning) (results : N → List (List Item)) (serves : N → ℕ → ℕ → ℕ → Type 0)
    (more : (n : N) (count bytes free all : ℕ) → free ≤ all → serves n count bytes free → serves n count bytes all) where
  abbrev pub Ready : NodeWork N → Type 0
  Ready w = IsReady stands makes results serves w

  abbrev pub For : NodeWork N → List ClassedItem → Type 0
  For w list = StandsFor stands makes results serves w list

  abbrev pub HasHandled : NodeWork N → NodeWork N → List Work → Type 0
  HasHandled old new ws = Handled stands makes results serves old new ws

  lifted : (old new : NodeWork N) (flow : Flow) (items : List FlowItem) (ended : Option ℕ) (added : Parts) → Went stands makes results old.root new.root flow items ended added
      → Went (work_stands stands makes results serves) (work_makes stands makes results serves) (work_results stands makes results serves) old new flow items ended added
  lifted old new flow items ended added w = record { goes = w.goes; others = w.others; kept = w.kept; long = w.long; same = w.same }

  -- one that had failed
  pub handled_failed : (old new : NodeWork N) (w : Work) → Ready old → AreOut (work_buffer w ∷ []) old.desk.back old.desk.out.spare → old.failed ≡ true → new.failed ≡ old.failed → new.root ≡ old.root → new.ended ≡ old.ended
      → Recycled (work_buffer w ∷ []) old.desk.back new.desk.back old.desk.out.spare new.desk.out.spare → SameLists old.desk.out new.desk.out → HasHandled old new (w ∷ [])
  handled_failed old new w h o failed same root ended r l = record {
    ready = record {
      ready = subst (λ (n : N). serves n new.desk.out.spare.count new.desk.out.spare.bytes (length new.desk.out.spare.free)) (sym root) (serves_on serves more old.root (work_buffer w ∷ []) old.desk.back new.desk.back old.desk.out.spare new.desk.out.spare r h.ready);
      rest = same_emptied old.desk.out new.desk.out l h.rest;
      slots = slots_then (work_buffer w ∷ []) old.desk.back new.desk.back old.desk.out.spare new.desk.out.spare o r;
      seen = λ fine. absurd (true_or new.failed (same ∙ failed) fine);
    };
    recycled = r;
    stays_failed = λ f. same ∙ f;
    stands_for = λ fine. absurd (true_or new.failed (same ∙ failed) fine);
    same = ap makes root;
    many = ap (λ n. length (results n)) root;
    ended = ended;
  }

  -- one that had not
  pub handled_took : (old new : NodeWork N) (w : Work) (r₁ r₂ : Result ⊤ NoMemory) → Ready old → AreOut (work_buffer w ∷ []) old.desk.back old.desk.out.spare → old.failed ≡ false → new.failed ≡ is_err (joined r₁ r₂) → new.ended ≡ old.ended
      → OnOk r₁ (AreSeen new.flows) → OnOk r₁ (flows_in new.flows ≡ with_flow (flows_in old.flows) (flow_of w.class))
      → Took stands makes results serves old.root new.root (flow_of w.class) (work_buffer w ∷ []) (work_item w.class w.packet ∷ []) None old.desk new.desk r₂ → HasHandled old new (w ∷ [])
  handled_took old new w r₁ r₂ h o fine outcome ended seen noted t = record {
    ready = record {
      ready = serves_on serves more new.root (work_buffer w ∷ []) old.desk.back new.desk.back old.desk.out.spare new.desk.out.spare t.recycled (t.stays old.desk.out.spare.count old.desk.out.spare.bytes _ refl h.ready);
      rest = t.emptied;
      slots = slots_then (work_buffer w ∷ []) old.desk.back new.desk.back old.desk.out.spare new.desk.out.spare o t.recycled;
      seen = λ ok. (both_fine r₁ r₂ new.failed _ _ outcome ok seen t.went).0;
    };
    recycled = t.recycled;
    stays_failed = λ f. absurd (true_or old.failed f fine);
    stands_for = λ ok list s.
        let went = (both_fine r₁ r₂ new.failed _ _ outcome ok seen t.went).1 in
        let flows = (both_fine r₁ r₂ new.failed _ _ outcome ok noted t.went).0 in
        let e : Entry = record { number = w.class.flow; parts = went.0 } in
        record {
          log = s.log ++ e ∷ [];
          means = stands_more (work_stands stands makes results serves) (work_makes stands makes results serves) (work_results stands makes results serves) (work_counts stands makes results serves) 0 old new list s.log (classed w) went.0 s.means
              (lifted old new (flow_of w.class) (work_item w.class w.packet ∷ []) None went.0 went.1, went.2);
          flows = flows ∙ (ap (λ fs. with_flow fs (flow_of w.class)) s.flows ∙ sym (flows_more [] list (classed w)));
        };
    same = t.same;
    many = t.many;
    ended = ended;
  }

  pub handled_none : (w : NodeWork N) → Ready w → HasHandled w w []
  handled_none w h = record {
    ready = h;
    recycled = recycled_none w.desk.back w.desk.out.spare;
    stays_failed = λ f. f;
    stands_for = λ ok list s. subst (λ (l : List ClassedItem). For w l) (sym (append-nil list)) s;
    same = refl;
    many = refl;
    ended = refl;
  }

  pub handled_both : (old mid new : NodeWork N) (xs ys : List Work) → HasHandled old mid xs → HasHandled mid new ys → HasHandled old new (xs ++ ys)
  handled_both old mid new xs ys a b = record {
    ready = b.ready;
    recycled = subst (λ (bs : List BufferModel). Recycled bs old.desk.back new.desk.back old.desk.out.spare new.desk.out.spare) (sym (map-append work_buffer xs ys))
        (recycled_both (map work_buffer xs) (map work_buffer ys) old.desk.back mid.desk.back new.desk.back old.desk.out.spare mid.desk.out.spare new.desk.out.spare a.recycled b.recycled);
    stays_failed = λ f. b.stays_failed (a.stays_failed f);
    stands_for = λ ok list s.
        let joined_list : (list ++ map classed xs) ++ map classed ys ≡ list ++ map classed (xs ++ ys) = append_assoc list (map classed xs) (map classed ys) ∙ ap (λ t. list ++ t) (sym (map-append classed xs ys)) in
        subst (λ (l : List ClassedItem). For new l) joined_list (b.stands_for ok (list ++ map classed xs) (a.stands_for (not_yet (mid.failed) refl b.stays_failed ok) list s));
    same = b.same ∙ a.same;
    many = b.many ∙ a.many;
    ended = b.ended ∙ a.ended;
  } where
    not_yet : (t : Bool) → mid.failed ≡ t → (mid.failed ≡ true → new.failed ≡ true) → new.failed ≡ false → mid.failed ≡ false
    not_yet true e f ok = absurd (true_or new.failed (f e) ok)
    not_yet false e f ok = e

  abbrev pub emptied_back : NodeWork N → List BufferModel → NodeWork N
  emptied_back w back = record w { desk = record w.desk { back = back } }

  -- all of them, and their buffers go back
  pub turn_did : (old mid : NodeWork N) (works : List Work) (back left : List BufferModel) → old.desk.back ≡ [] → AllByRecursion (λ (w : Work). is_own (work_buffer w) ≡ true) works → HasHandled old mid works
      → back ≡ mid.desk.back → left ≡ [] → Turned stands makes results serves old (emptied_back mid left) works back
  turn_did old mid works back left none own effect eb en = record {
    buffers = subst (λ (bs : List BufferModel). IsPermutation (map work_buffer works) bs) (sym eb)
        (own_back (map work_buffer works) mid.desk.back old.desk.out.spare mid.desk.out.spare (all_mapped works own) (subst (λ (bs : List BufferModel). Recycled (map work_buffer works) bs mid.desk.back old.desk.out.spare mid.desk.out.spare) none effect.recycled));
    ready = let h = effect.ready in record { ready = h.ready; rest = h.rest; slots = h.slots; seen = h.seen };
    none_left = en;
    ended = effect.ended;
    stays_failed = effect.stays_failed;
    stands_for = λ ok list s.
        let t = effect.stands_for ok list s in
        record { log = t.log; means = record { flows = t.means.flows; kept = t.means.kept; drops = t.means.drops; known = t.means.known }; flows = t.flows };
    same = effect.same;
    many = effect.many;
  } where
    all_mapped : (ws : List Work) → AllByRecursion (λ (w : Work). is_own (work_buffer w) ≡ true) ws → AllByRecursion (λ (b : BufferModel). is_own b ≡ true) (map work_buffer ws)
    all_mapped [] h = tt
    all_mapped (w ∷ ws) (h, hs) = (h, all_mapped ws hs)

  -- the buffers of a batch are on their way
  pub batch_out : (w : NodeWork N) (works : List Work) → Ready w → w.desk.back ≡ [] → length works ≤ 32 → AllByRecursion (λ (w : Work). is_own (work_buffer w) ≡ true) works → AreOut (map work_buffer works) w.desk.back w.desk.out.spare
  batch_out w works h none few own = record {
    slots = subst (λ (ks : List ℕ). AreSlots w.desk.out.spare.count (ks ++ w.desk.out.spare.free)) (sym (all_own (map work_buffer works) (mapped works own)).1) h.slots;
    rooms = rooms works own;
    place =
        let o = ap length (all_own (map work_buffer works) (mapped works own)).0 in
        let m = length-map works work_buffer in
        let b = ap length none in omega arith;
  } where
    mapped : (ws : List Work) → AllByRecursion (λ (w : Work). is_own (work_buffer w) ≡ true) ws → AllByRecursion (λ (b : BufferModel). is_own b ≡ true) (map work_buffer ws)
    mapped [] h = tt
    mapped (w ∷ ws) (h, hs) = (h, mapped ws hs)

    rooms : (ws : List Work) → AllByRecursion (λ (w : Work). is_own (work_buffer w) ≡ true) ws → AllByRecursion (λ (b : BufferModel). is_own b ≡ false → b.room ≡ w.desk.out.spare.bytes) (map work_buffer ws)
    rooms [] h = tt
    rooms (v ∷ ws) (h, hs) = ((λ f. absurd (true_or (is_own (work_buffer v)) h f)), rooms ws hs)
