-- One record more of an ingest: it is Big, or sent, or refused.
use Rattle.std.proofs.Common.{◌≡◌, ◌≢◌, ℕ, suc, ◌+◌, ◌^◌, ◌<◌, ◌≤◌, Bool, true, false, not, ◌&&◌, ◌||◌, nat_eq, List, [], ◌∷◌, ◌++◌, length, set, sym, refl, ap, ◌∙◌, subst, arith, eq-eqb, ne_eqb, inl, inr, length-append, length-set, get_or-set_same, get_or-set_other}
use Rattle.std.specs.Prelude.{if◌then◌else◌, slice_index}
use Rattle.std.proofs.lemmas.Bool.Decides.{eqb_tells}
use Rattle.std.proofs.lemmas.List.{map-append, length-map}
use Rattle.std.proofs.lemmas.List.Elements.{All-weaker, All-set, All-push, All-get_or}
use Rattle.std.proofs.lemmas.Option.{slice_get-get_or}
use Rattle.lane_spec.specs.Counts.{total, without}
use Rattle.lane_spec.specs.Pairs.{Pair, numbers_of, AreBelow}
use Rattle.brick_spec.specs.Cause.{one_more}
use Rattle.lane_core.specs.Seats.{IngestFacts, IngestBecomes, LaneFacts, log_of, AreAllBelow, with_send}
use Rattle.lane_core.proofs.Counting.{total_set}
use Rattle.run_spec.specs.Books.{Job}
use Rattle.work_crew.specs.Records.{records_in, is_big, is_in, is_accepted, is_sent, numbers_where, AreRisingBelow, of_worker, worker_of, IsLaneOf, waits}
use Rattle.work_crew.specs.Ingested.{HasIngested, HasClaimed, RefusedBy}
use Rattle.work_crew.proofs.Ingests.{where_yes, where_no, where_same, in_below, in_more, where_most, where_less}

not_true : (b : Bool) → b ≢ true → b ≡ false
not_true true n = absurd (n refl)
not_true false n = refl

both_true : (a b : Bool) → a ≡ true → b ≡ true → (a && b) ≡ true
both_true true b e f = f
both_true false b e f = absurd (cc)

second_false : (a b : Bool) → b ≡ false → (a && b) ≡ false
second_false true b e = e
second_false false b e = refl

second_true : (a b : Bool) → (a && b) ≡ true → b ≡ true
second_true true b e = e
second_true false b e = absurd (cc)

or_is : (a b : Bool) → a ≡ false → (a || b) ≡ b
or_is true b e = absurd (cc)
or_is false b e = refl

or_none : (a b : Bool) → b ≡ false → (a || b) ≡ a
or_none true b e = refl
or_none false b e = e

or_second : (a b : Bool) → b ≡ true → (a || b) ≡ true
or_second true b e = refl
or_second false b e = e

all_weaker : (n : ℕ) (logs : List (List Pair)) → AreAllBelow n logs → AreAllBelow (suc n) logs
all_weaker n logs all = All-weaker (AreBelow n) (AreBelow (suc n)) (λ log below. All-weaker (λ (p : Pair). p.1 < n) (λ (p : Pair). p.1 < suc n) (λ p lt. omega arith) log below) logs all

module _ (job : Job) (workers n : ℕ) (refused : List ℕ) (f : IngestFacts) (h : HasIngested job workers n refused f) where
  -- record n was not refused before
  fresh : is_in refused n ≡ false
  fresh = not_true (is_in refused n) (λ t. absurd (let lt = in_below (is_in refused) n n (ap (λ xs. is_in xs n) (sym h.rising) ∙ t) in omega arith))

  still_rising : AreRisingBelow (suc n) refused
  still_rising = h.rising ∙ sym (where_no (is_in refused) n fresh)

  -- BIG

  pub big_step : is_big job n ≡ true → HasIngested job workers (suc n) refused f
  big_step big =
      let none : is_accepted job refused n ≡ false = ap (λ b. not b && not (is_in refused n)) big in record {
        held = h.held;
        count = h.count;
        sent = λ w lt. h.sent w lt ∙ sym (where_no (is_sent job refused workers w) n (ap (λ b. b && of_worker job workers w n) none));
        below = all_weaker n f.sent h.below;
        in_all = h.in_all ∙ ap length (sym (where_no (is_accepted job refused) n none));
        rising = still_rising;
        fit = h.fit;
        behind = h.behind;
        waiting = h.waiting;
        missed = h.missed;
      }

  -- SENT

  accepted_here : is_big job n ≡ false → is_accepted job refused n ≡ true
  accepted_here small = both_true (not (is_big job n)) (not (is_in refused n)) (ap not small) (ap not fresh)

  module _ (small : is_big job n ≡ false) (w slot : ℕ) (worker_is : w ≡ worker_of job workers n) (below : w < workers) (mid : IngestFacts) (c : HasClaimed slot f mid) where
    own : of_worker job workers w n ≡ true
    own = eq-eqb (worker_of job workers n) w (sym worker_is)

    mid_count : length mid.sent ≡ workers
    mid_count = ap length c.sent ∙ h.count

    pub share_left : (lane : LaneFacts) → IsLaneOf job workers lane → n < records_in job → length (log_of mid.sent w) < slice_index lane.shares w
    share_left lane l lt =
        let log : length (log_of mid.sent w) ≡ length (numbers_where (is_sent job refused workers w) n) =
        ap (λ s. length (log_of s w)) c.sent ∙ sym (length-map (log_of f.sent w) (λ (p : Pair). p.1)) ∙ ap length (h.sent w below) in
        let less = where_less (is_sent job refused workers w) (of_worker job workers w) n (records_in job) (λ k t. second_true (is_accepted job refused k) (of_worker job workers w k) t) lt own in
        let share = l.shares w below in omega arith

    pub all_below : (a : ℕ) → a ≡ n → AreAllBelow a mid.sent
    all_below a is = subst (λ (s : ℕ × List (List Pair)). AreAllBelow s.0 s.1) (λ j. (sym is j, sym c.sent j)) h.below

    only : without slot (slot ∷ []) ≡ []
    only = ap (λ b. if b then [] else slot ∷ []) (eq-eqb slot slot refl)

    pub sent_step : (new : IngestFacts) → IngestBecomes (with_send w slot n mid) new → (waits job.chain.dry ≡ false → new.missed ≡ f.missed) → HasIngested job workers (suc n) refused new
    sent_step new s same_missed =
        let yes_ = accepted_here small in
        let logs : new.sent ≡ set f.sent w (log_of f.sent w ++ (slot, n) ∷ []) = ap (λ x. x.sent) s.same ∙ ap (λ l. set l w (log_of l w ++ (slot, n) ∷ [])) c.sent in record {
          held = ap (λ x. x.held) s.same ∙ ap (without slot) (c.held ∙ ap (λ l. l ++ slot ∷ []) h.held) ∙ only;
          count = ap length logs ∙ length-set f.sent w _ ∙ h.count;
          sent = λ y lt. elim (eqb_tells y w) [
            | inl e ↦ subst (λ z. numbers_of (log_of new.sent z) ≡ numbers_where (is_sent job refused workers z) (suc n)) (sym e.1)
                (ap (λ l. numbers_of (log_of l w)) logs ∙ ap numbers_of (get_or-set_same f.sent w (log_of f.sent w ++ (slot, n) ∷ []) [] (let k = h.count in omega arith))
                ∙ map-append (λ (p : Pair). p.1) (log_of f.sent w) ((slot, n) ∷ []) ∙ ap (λ l. l ++ n ∷ []) (h.sent w below)
                ∙ sym (where_yes (is_sent job refused workers w) n (both_true (is_accepted job refused n) (of_worker job workers w n) yes_ own)))
            | inr e ↦ ap (λ l. numbers_of (log_of l y)) logs ∙ ap numbers_of (get_or-set_other f.sent w y (log_of f.sent w ++ (slot, n) ∷ []) [] e.1) ∙ h.sent y lt
                ∙ sym (where_no (is_sent job refused workers y) n (second_false (is_accepted job refused n) (of_worker job workers y n) (ne_eqb (worker_of job workers n) y (λ d. e.1 (sym d ∙ sym worker_is)))))
          ];
          below = subst (AreAllBelow (suc n)) (sym logs) (All-set (AreBelow (suc n)) f.sent w (log_of f.sent w ++ (slot, n) ∷ [])
              (All-push (λ (p : Pair). p.1 < suc n) (log_of f.sent w) (slot, n) (All-get_or (AreBelow (suc n)) f.sent w [] (let k = h.count in omega arith) (all_weaker n f.sent h.below)) (omega arith))
              (all_weaker n f.sent h.below));
          in_all = let t = total_set (λ (log : List Pair). length log) f.sent w (log_of f.sent w) (log_of f.sent w ++ (slot, n) ∷ []) (slice_get-get_or f.sent w [] (let k = h.count in omega arith)) in
              let l = length-append (log_of f.sent w) ((slot, n) ∷ []) in let was = h.in_all in
              let more : length (numbers_where (is_accepted job refused) (suc n)) ≡ length (numbers_where (is_accepted job refused) n) + 1 = ap length (where_yes (is_accepted job refused) n yes_) ∙ length-append (numbers_where (is_accepted job refused) n) (n ∷ []) in
              ap (total (λ (log : List Pair). length log)) logs ∙ omega arith;
          rising = still_rising;
          fit = h.fit;
          behind = h.behind;
          waiting = h.waiting;
          missed = λ drops. same_missed drops ∙ h.missed drops;
        }

  -- REFUSED

  module _ (small : is_big job n ≡ false) (few : n < 2 ^ 32) (new : IngestFacts) (r : RefusedBy job.chain.buffers (waits job.chain.dry) f new) where
    abbrev more : List ℕ
    more = refused ++ n ∷ []

    in_here : is_in more n ≡ true
    in_here = in_more refused n n ∙ or_second (is_in refused n) (nat_eq n n) (eq-eqb n n refl)

    in_else : (k : ℕ) → k ≢ n → is_in more k ≡ is_in refused k
    in_else k ne = in_more refused n k ∙ or_none (is_in refused k) (nat_eq k n) (ne_eqb k n ne)

    same_below : (k : ℕ) → k < n → is_accepted job more k ≡ is_accepted job refused k
    same_below k lt = ap (λ b. not (is_big job k) && not b) (in_else k (λ e. absurd (omega arith)))

    not_here : is_accepted job more n ≡ false
    not_here = second_false (not (is_big job n)) (not (is_in more n)) (ap not in_here)

    accepted_same : (m : ℕ) → m ≤ n → numbers_where (is_accepted job more) m ≡ numbers_where (is_accepted job refused) m
    accepted_same m le = where_same (is_accepted job more) (is_accepted job refused) m (λ k lt. same_below k (omega arith))

    pub refused_step : HasIngested job workers (suc n) more new
    refused_step = record {
      held = r.held ∙ h.held;
      count = ap length r.sent ∙ h.count;
      sent = λ w lt. ap (λ l. numbers_of (log_of l w)) r.sent ∙ h.sent w lt
          ∙ where_same (is_sent job refused workers w) (is_sent job more workers w) n (λ k below. ap (λ b. b && of_worker job workers w k) (sym (same_below k below)))
          ∙ sym (where_no (is_sent job more workers w) n (ap (λ b. b && of_worker job workers w n) not_here));
      below = subst (AreAllBelow (suc n)) (sym r.sent) (all_weaker n f.sent h.below);
      in_all = ap (total (λ (log : List Pair). length log)) r.sent ∙ h.in_all ∙ ap length (sym (accepted_same n (omega arith)) ∙ sym (where_no (is_accepted job more) n not_here));
      rising = ap (λ l. l ++ n ∷ []) (h.rising ∙ where_same (is_in refused) (is_in more) n (λ k lt. sym (in_else k (λ e. absurd (omega arith))))) ∙ sym (where_yes (is_in more) n in_here);
      fit = λ k t. elim (eqb_tells k n) [
        | inl e ↦ ap (is_big job) e.1 ∙ small
        | inr e ↦ h.fit k (sym (in_else k e.1) ∙ t)
      ];
      behind = λ k t. elim (eqb_tells k n) [
        | inl e ↦ subst (λ m. job.chain.buffers ≤ length (numbers_where (is_accepted job more) m)) (sym e.1)
            (let same = ap length (accepted_same n (omega arith)) in let all = h.in_all in let given = r.all_given in let none = ap length h.held in omega arith)
        | inr e ↦ let was = sym (in_else k e.1) ∙ t in let lt = in_below (is_in refused) n k (ap (λ xs. is_in xs k) (sym h.rising) ∙ was) in
            let same = ap length (accepted_same k (omega arith)) in let b = h.behind k was in omega arith
      ];
      waiting = λ t. absurd (let d = r.drops in let e : false ≡ true = sym d ∙ t in cc);
      missed = λ d. let was = h.missed d in let most = where_most (is_in refused) n in let long : length refused ≡ length (numbers_where (is_in refused) n) = ap length h.rising in
          let one : one_more f.missed ≡ f.missed + 1 = omega arith in let l = length-append refused (n ∷ []) in r.missed ∙ omega arith;
    }

-- AS THE CALL HAS IT

pub as_next : (job : Job) (workers n : ℕ) (refused : List ℕ) (f : IngestFacts) → HasIngested job workers (suc n) refused f → HasIngested job workers (n + 1) refused f
as_next job workers n refused f h = subst (λ m. HasIngested job workers m refused f) (let e : suc n ≡ n + 1 = omega arith in e) h

pub sent_as : (job : Job) (workers n : ℕ) (refused : List ℕ) (f : IngestFacts) (h : HasIngested job workers n refused f) → is_big job n ≡ false → (w slot : ℕ) → w ≡ worker_of job workers n → w < workers
    → (mid : IngestFacts) → HasClaimed slot f mid → (slot' a : ℕ) (new : IngestFacts) → slot' ≡ slot → a ≡ n → IngestBecomes (with_send w slot' a mid) new → (waits job.chain.dry ≡ false → new.missed ≡ f.missed) → HasIngested job workers (n + 1) refused new
sent_as job workers n refused f h small w slot worker_is below mid c slot' a new e d s missed =
    as_next job workers n refused new (sent_step job workers n refused f h small w slot worker_is below mid c new (subst (λ (t : ℕ × ℕ). IngestBecomes (with_send w t.0 t.1 mid) new) (λ j. (e j, d j)) s) missed)
