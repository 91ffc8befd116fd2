-- One record more, sent in a buffer that was claimed for it.
use Rattle.std.proofs.Common.{◌≡◌, ◌≢◌, ℕ, suc, ◌+◌, ◌<◌, ◌≤◌, List, [], ◌∷◌, ◌++◌, length, get_or, set, replicate, zero, sym, refl, ap, ◌∙◌, subst, arith, eq-eqb, length-append, inl, inr}
use Rattle.std.specs.Prelude.{if◌then◌else◌, slice_get, Some, All}
use Rattle.std.specs.List.{remove}
use Rattle.brick_spec.specs.Capture.{Entry, Contents}
use Rattle.std.proofs.lemmas.Bool.Decides.{eqb_tells}
use Rattle.std.proofs.lemmas.List.Elements.{All-nil, All-cons, All-set, All-push, All-weaker, All-get_or, All-replicate}
use Rattle.lane_spec.specs.Counts.{times, without}
use Rattle.lane_spec.specs.Pairs.{Pair, AreBelow}
use Rattle.lane_core.specs.Seats.{IngestFacts, IngestBecomes, IsNewIngest, log_of, AreAllBelow, with_claim, with_send}
use Rattle.lane_core.proofs.Counting.{times_here}
use Rattle.lane_core.specs.Alone.{AllFit}
use Rattle.lane_queue.specs.Turns.{HasSentBelow}
use Rattle.lane_queue.proofs.Starts.{none_at}
use Rattle.lane_queue.proofs.Sums.{log_here, log_else}

-- each element that is there
all_there : {X : Type 0} (P : X → Type 0) (xs : List X) → ((i : ℕ) (x : X) → slice_get xs i ≡ Some x → P x) → All P xs
all_there P [] each = All-nil P
all_there P (x ∷ xs) each = All-cons P x xs (each 0 x refl) (all_there P xs (λ i y at. each (suc i) y at))

pub all_short : (bytes : ℕ) (capture : Contents) → ((i : ℕ) (e : Entry) → slice_get capture.entries i ≡ Some e → length e.frame ≤ bytes) → AllFit bytes capture
all_short bytes capture each = all_there (λ (e : Entry). length e.frame ≤ bytes) capture.entries each

-- the first of two, once the second is taken
pub first_left : {X : Type 0} (xs : List X) (x : X) → length xs ≡ 2 → x ≡ get_or (remove xs 1) 0 x → slice_get xs 0 ≡ Some x
first_left [] x two e = absurd (omega arith)
first_left (a ∷ []) x two e = absurd (omega arith)
first_left (a ∷ b ∷ xs) x two e = ap Some (sym e)

-- at the start
pub new_sent : (workers : ℕ) (f : IngestFacts) → IsNewIngest workers f → HasSentBelow 0 f
new_sent workers f new = record {
  finished = new.finished;
  held = new.held;
  below = subst (AreAllBelow 0) (sym new.sent) (All-replicate (AreBelow 0) workers [] (All-nil (λ (p : Pair). p.1 < 0)));
  few = λ w. let e = ap (λ (logs : List (List Pair)). length (log_of logs w)) new.sent in let n = ap (λ (log : List Pair). length log) (none_at workers w) in omega arith;
}

module _ (k slot w : ℕ) (old mid : IngestFacts) (h : HasSentBelow k old) (c : IngestBecomes (with_claim slot old) mid) where
  -- a claim that gave the slot sends nothing
  sent_same : mid.sent ≡ old.sent
  sent_same = ap (λ f. f.sent) c.same

  held_is : mid.held ≡ slot ∷ []
  held_is = ap (λ f. f.held) c.same ∙ ap (λ l. l ++ slot ∷ []) h.held

  pub claimed_held : 0 < times slot mid.held
  claimed_held = let is = ap (times slot) held_is in let t = times_here slot [] in omega arith

  pub still_open : mid.finished ≡ Rattle.std.proofs.Common.false
  still_open = ap (λ f. f.finished) c.same ∙ h.finished

  pub still_below : (a : ℕ) → a ≡ k → AreAllBelow a mid.sent
  still_below a is = subst (λ (x : ℕ × List (List Pair)). AreAllBelow x.0 x.1) (λ j. (sym is j, sym sent_same j)) h.below

  pub still_few : length (log_of mid.sent w) ≤ k
  still_few = let e = ap (λ (logs : List (List Pair)). length (log_of logs w)) sent_same in let f = h.few w in omega arith

  more_below : (log : List Pair) → AreBelow k log → AreBelow (k + 1) log
  more_below log b = All-weaker (λ (p : Pair). p.1 < k) (λ (p : Pair). p.1 < k + 1) (λ p lt. omega arith) log b

  pub sent_more : (new : IngestFacts) → w < length old.sent → (slot' a : ℕ) → slot' ≡ slot → a ≡ k → IngestBecomes (with_send w slot' a mid) new → HasSentBelow (k + 1) new
  sent_more new there slot' a se ae s = let log : List Pair = log_of old.sent w in let more : List Pair = log ++ (slot, k) ∷ [] in
      let sent : new.sent ≡ set old.sent w more = ap (λ f. f.sent) s.same ∙ (λ j. set (sent_same j) w (log_of (sent_same j) w ++ (se j, ae j) ∷ [])) in record {
        finished = ap (λ f. f.finished) s.same ∙ still_open;
        held = ap (λ f. f.held) s.same ∙ (λ j. without (se j) (held_is j)) ∙ ap (λ b. if b then [] else slot ∷ []) (eq-eqb slot slot refl);
        below = subst (AreAllBelow (k + 1)) (sym sent) (All-set (AreBelow (k + 1)) old.sent w more
            (All-push (λ (p : Pair). p.1 < k + 1) log (slot, k) (more_below log (All-get_or (AreBelow k) old.sent w [] there h.below)) (omega arith))
            (All-weaker (AreBelow k) (AreBelow (k + 1)) more_below old.sent h.below));
        few = λ x. let e = ap (λ (logs : List (List Pair)). length (log_of logs x)) sent in elim (eqb_tells x w) [
          | inl is ↦ let l = ap (λ (y : ℕ). length (log_of (set old.sent w more) y)) is.1 in let m = ap (λ (y : List Pair). length y) (log_here w more old.sent there) in let n = length-append log ((slot, k) ∷ []) in let f = h.few w in omega arith
          | inr ne ↦ let m = ap (λ (y : List Pair). length y) (log_else w x more old.sent ne.1) in let f = h.few x in omega arith
        ];
      }
