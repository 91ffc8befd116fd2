-- Many turns.
use Rattle.std.proofs.Common.{◌≡◌, ℕ, ◌<◌, List, [], ◌∷◌, ◌++◌, map, length, true, false, Bool, refl, ap, sym, subst, ◌∙◌, append-nil, append_assoc, zero, suc, get_or, arith}
use Rattle.std.proofs.lemmas.List.{map-append}
use Rattle.std.proofs.lemmas.Grind.{flat_map-append}
use Rattle.std.specs.List.{AllByRecursion}
use Rattle.brick_spec.specs.Flow.{Flow, Class}
use Rattle.brick_spec.specs.Item.{Item}
use Rattle.brick_spec.specs.FlowStage.{FlowInput}
use Rattle.brick_spec.specs.GroupOutput.{all_of}
use Rattle.packet_owner.specs.Buffer.{BufferModel}
use Rattle.batch_ops.specs.declared.batch.Work.{Work}
use Rattle.flow_spec.specs.Parts.{Parts}
use Rattle.flow_spec.specs.Plan.{Plan, flow_meaning, leaf_count}
use Rattle.flow_spec.specs.Answer.{ClassedItem, answer}
use Rattle.flow_work.specs.Meaning.{Meaning}
use Rattle.flow_work.specs.Log.{OwnsKeys, AreRecords}
use Rattle.chain_nodes.specs.declared.work.NodeWork.{NodeWork}
use Rattle.work_core.specs.declared.result.WorkResult.{WorkResult}
use Rattle.chain_nodes.specs.Answers.{Answers}
use Rattle.work_core.specs.Result.{result_view}
use Rattle.chain_nodes.specs.Work.{IsReady, StandsFor, Turned, Ended}
use Rattle.work_core.specs.Classed.{classed}
use Rattle.chain_nodes.specs.Run.{HasTurned, AreLent}

pub all_at : {X : Type 0} (P : X → Type 0) (xs : List X) (k : ℕ) (d : X) → k < length xs → AllByRecursion P xs → P (get_or xs k d)
all_at P [] k d l h = absurd (omega (arith, l))
all_at P (x ∷ xs) zero d l (h, hs) = h
all_at P (x ∷ xs) (suc k) d l (h, hs) = all_at P xs k d (omega arith) hs

true_or : (b : Bool) → b ≡ true → b ≡ false → ⊥
true_or b p q = cc

module _ {N : Type 0} (stands : N → Flow → FlowInput → Parts → Type 0) (makes : N → Meaning) (results : N → List (List Item)) (serves : N → ℕ → ℕ → ℕ → Type 0) where
  pub turned_none : (w : NodeWork N) → IsReady stands makes results serves w → w.desk.back ≡ [] → HasTurned stands makes results serves w w []
  turned_none w h none = record {
    ready = h;
    none_left = none;
    ended = refl;
    stands_for = λ ok list s. subst (λ (l : List ClassedItem). StandsFor stands makes results serves w l) (sym (append-nil list)) s;
    stays_failed = λ f. f;
    same = refl;
    many = refl;
  }

  pub turned_more : (old mid new : NodeWork N) (done : List (List Work)) (batch : List Work) (back : List BufferModel) → HasTurned stands makes results serves old mid (all_of done) → Turned stands makes results serves mid new batch back
      → HasTurned stands makes results serves old new (all_of (done ++ batch ∷ []))
  turned_more old mid new done batch back a b = record {
    ready = b.ready;
    none_left = b.none_left;
    ended = b.ended ∙ a.ended;
    stands_for = λ ok list s.
        let works : all_of (done ++ batch ∷ []) ≡ all_of done ++ batch = flat_map-append (λ (xs : List Work). xs) done (batch ∷ []) ∙ ap (λ t. all_of done ++ t) (append-nil batch) in
        let lists : (list ++ map classed (all_of done)) ++ map classed batch ≡ list ++ map classed (all_of (done ++ batch ∷ [])) =
        append_assoc list (map classed (all_of done)) (map classed batch) ∙ ap (λ t. list ++ t) (sym (map-append classed (all_of done) batch) ∙ ap (map classed) (sym works)) in
        subst (λ (l : List ClassedItem). StandsFor stands makes results serves new l) lists (b.stands_for ok (list ++ map classed (all_of done)) (a.stands_for (not_yet mid.failed refl b.stays_failed ok) list s));
    stays_failed = λ f. b.stays_failed (a.stays_failed f);
    same = b.same ∙ a.same;
    many = b.many ∙ a.many;
  } where
    not_yet : (t : Bool) → mid.failed ≡ t → (mid.failed ≡ true → new.failed ≡ true) → new.failed ≡ false → mid.failed ≡ false
    not_yet true e f ok = absurd (true_or new.failed (f e) ok)
    not_yet false e f ok = e

  pub run_answers : (old mid new : NodeWork N) (works : List Work) (records : ℕ) (r : WorkResult) → StandsFor stands makes results serves old [] → HasTurned stands makes results serves old mid works → Ended stands makes results serves mid new records → new.failed ≡ false
      → Answers stands makes results serves new r → (plan : Plan) (class_at : ℕ → Class) → makes old.root ≡ flow_meaning plan → length (results old.root) ≡ leaf_count plan → OwnsKeys (flow_meaning plan) → AreRecords class_at records (map classed works)
      → result_view r ≡ answer plan (map classed works) records
  run_answers old mid new works records r s t e ok a plan class_at follows long owns are =
      let same = e.same ∙ t.same in
      let many = e.many ∙ t.many in
      a plan class_at records (map classed works) (same ∙ follows) (many ∙ long) owns are (e.stands_for ok (map classed works) (t.stands_for (not_yet mid.failed refl e.stays_failed ok) [] s)) where
        not_yet : (t : Bool) → mid.failed ≡ t → (mid.failed ≡ true → new.failed ≡ true) → new.failed ≡ false → mid.failed ≡ false
        not_yet true e f ok = absurd (true_or new.failed (f e) ok)
        not_yet false e f ok = e
