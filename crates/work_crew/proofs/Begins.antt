-- An ingest that has done nothing, and one that finishes.
use Rattle.std.proofs.Common.{◌≡◌, ℕ, zero, suc, ◌<◌, true, List, [], length, replicate, sym, refl, ap, ◌∙◌, subst, arith}
use Rattle.std.proofs.lemmas.List.{length-replicate}
use Rattle.std.proofs.lemmas.List.Elements.{All-replicate, All-nil}
use Rattle.lane_spec.specs.Counts.{total}
use Rattle.lane_spec.specs.Pairs.{Pair, numbers_of, AreBelow}
use Rattle.lane_core.specs.Seats.{IngestFacts, IsNewIngest, IngestBecomes, with_finish, log_of, AreAllBelow}
use Rattle.run_spec.specs.Books.{Job}
use Rattle.work_crew.specs.Records.{is_in}
use Rattle.work_crew.specs.Ingested.{HasIngested}

pub empty_at : (n w : ℕ) → log_of (replicate n []) w ≡ []
empty_at zero w = refl
empty_at (suc n) zero = refl
empty_at (suc n) (suc w) = empty_at n w

empty_total : (n : ℕ) → total (λ (log : List Pair). length log) (replicate n []) ≡ 0
empty_total zero = refl
empty_total (suc n) = let r = empty_total n in omega arith

none_in : (k : ℕ) {P : Type 0} → is_in [] k ≡ true → P
none_in k e = absurd (cc)

pub new_ingest : (job : Job) (workers : ℕ) (f : IngestFacts) → IsNewIngest workers f → HasIngested job workers 0 [] f
new_ingest job workers f n = record {
  held = n.held;
  count = ap length n.sent ∙ length-replicate workers [];
  sent = λ w lt. ap (λ s. numbers_of (log_of s w)) n.sent ∙ ap numbers_of (empty_at workers w);
  below = subst (AreAllBelow 0) (sym n.sent) (All-replicate (AreBelow 0) workers [] (All-nil (λ (p : Pair). p.1 < 0)));
  in_all = ap (total (λ (log : List Pair). length log)) n.sent ∙ empty_total workers;
  rising = refl;
  fit = λ k t. none_in k t;
  behind = λ k t. none_in k t;
  waiting = λ t. refl;
  missed = λ d. n.missed;
}

pub finish_keeps : (job : Job) (workers n : ℕ) (refused : List ℕ) (f new : IngestFacts) → HasIngested job workers n refused f → IngestBecomes (with_finish f) new → HasIngested job workers n refused new
finish_keeps job workers n refused f new h s =
    let sent = ap (λ x. x.sent) s.same in record {
      held = ap (λ x. x.held) s.same ∙ h.held;
      count = ap length sent ∙ h.count;
      sent = λ w lt. ap (λ l. numbers_of (log_of l w)) sent ∙ h.sent w lt;
      below = subst (AreAllBelow n) (sym sent) h.below;
      in_all = ap (total (λ (log : List Pair). length log)) sent ∙ h.in_all;
      rising = h.rising;
      fit = h.fit;
      behind = h.behind;
      waiting = h.waiting;
      missed = λ d. ap (λ x. x.missed) s.same ∙ h.missed d;
    }
