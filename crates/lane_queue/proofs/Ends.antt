-- The ingest's seat takes in those of the workers, one by one.
use Rattle.std.proofs.Common.{◌≡◌, ◌≢◌, ℕ, zero, suc, ◌+◌, ◌<◌, ◌≤◌, Bool, true, List, [], ◌∷◌, ◌++◌, length, get_or, refl, sym, ap, ◌∙◌, subst, arith, length-append, lt-ltb, ltb-true, nat_lt}
use Rattle.std.specs.Prelude.{slice_get, Some, vec_capacity}
use Rattle.std.specs.List.{remove}
use mathlib.Core.Logic.{dite}
use native.Mathlib.Decide.{ℕ_discrete, dec_le}
use Rattle.std.proofs.lemmas.List.{length-map}
use mathlib.Core.List.{map-append}
use Rattle.crossbeam_queue.specs.Passes.{view, IsPassOf}
use Rattle.lane_spec.specs.Counts.{times, one_if}
use Rattle.lane_spec.specs.Pairs.{Pair, slots_of}
use Rattle.lane_core.specs.Log.{LogModel}
use Rattle.lane_core.specs.View.{pairs_in}
use Rattle.lane_core.specs.Seats.{log_of}
use Rattle.lane_core.proofs.Counting.{times_append, total_push}
use Rattle.lane_core.proofs.Moves.{false_from}
use Rattle.lane_queue.specs.declared.lane.QueueLane.{QueueLane}
use Rattle.lane_queue.specs.declared.lane.QueueIngest.{QueueIngest}
use Rattle.lane_queue.specs.declared.lane.QueueWorker.{QueueWorker}
use Rattle.lane_queue.specs.declared.pool_rule.PoolView.{PoolView}
use Rattle.lane_queue.specs.PoolRule.{both_parts}
use Rattle.lane_queue.specs.Lists.{in_logs}
use Rattle.lane_queue.specs.Seats.{lane_of, IsSender, IsIngestOf, IsWorkerOf}
use Rattle.lane_queue.specs.Ends.{IsEndedWorker, AreEndedFrom, HasJoined}

pub front_is : {X : Type 0} (xs : List X) (x : X) → 0 < length xs → x ≡ get_or xs 0 x → xs ≡ x ∷ remove xs 0
front_is [] x lt e = absurd (omega arith)
front_is (y ∷ ys) x lt e = ap (λ z. z ∷ ys) (sym e)

pub ended_from : (l : QueueLane) (k : ℕ) (xs : List QueueWorker) → ((w : ℕ) (x : QueueWorker) → slice_get xs w ≡ Some x → IsEndedWorker l (k + w) x) → AreEndedFrom l k xs
ended_from l k [] all = tt
ended_from l k (x ∷ xs) all = (
  subst (λ (n : ℕ). IsEndedWorker l n x) (let e : k + 0 ≡ k = omega arith in e) (all 0 x refl),
  ended_from l (k + 1) xs (λ w y at. subst (λ (n : ℕ). IsEndedWorker l n y) (let e : k + suc w ≡ k + 1 + w = omega arith in e) (all (suc w) y at)),
)

log_last : (xs : List (List Pair)) (y : List Pair) (n : ℕ) → length xs ≡ n → log_of (xs ++ y ∷ []) n ≡ y
log_last [] y zero e = refl
log_last [] y (suc n) e = absurd (omega arith)
log_last (x ∷ xs) y zero e = absurd (omega arith)
log_last (x ∷ xs) y (suc n) e = log_last xs y n (omega arith)

log_first : (xs : List (List Pair)) (y : List Pair) (r : ℕ) → r < length xs → log_of (xs ++ y ∷ []) r ≡ log_of xs r
log_first [] y r lt = absurd (omega arith)
log_first (x ∷ xs) y zero lt = refl
log_first (x ∷ xs) y (suc r) lt = log_first xs y r (omega arith)

one_or_none : (k n : ℕ) (t : ℕ) → (k < n → t ≡ 1) → (n ≤ k → t ≡ 0) → t ≡ one_if (nat_lt k n)
one_or_none k n t one none = elim (dec_le n k) [
  | yes le ↦ none le ∙ ap one_if (sym (false_from (nat_lt k n) (λ b. absurd (let lt = ltb-true k n b in omega arith))))
  | no not_le ↦ one (omega arith) ∙ ap one_if (sym (lt-ltb k n (omega arith)))
]

-- before the first
pub first_joined : (l : QueueLane) (i : QueueIngest) → IsIngestOf l i → i.finished ≡ true → HasJoined l 0 i
first_joined l i o fin = record {
  pool = o.pool;
  parts = let p = o.parts in omega arith;
  put = λ k. let n = ap (λ (xs : List LogModel). in_logs k (pairs_in xs)) o.book.1 in let t = one_or_none k l.buffers (times k (view i.pass).put) (o.once k) (o.past k) in omega arith;
  count = ap (λ (xs : List LogModel). length xs) o.book.1;
  long = o.count;
  same = λ w lt. absurd (omega arith);
  left = λ w q p eq ep le. subst (λ (b : Bool). IsSender (lane_of l) w (log_of (pairs_in i.sent.items) w) b q p) fin (o.senders w q p eq ep);
  home = (o.book.0, o.book.2);
  room = o.book.3;
}

-- one more
module _ (l : QueueLane) (n : ℕ) (i j : QueueIngest) (x : QueueWorker) (h : HasJoined l n i) (own : IsWorkerOf l x) (place : x.place ≡ n) (nothing : x.held.items ≡ [])
    (same : x.received.pairs ≡ log_of (pairs_in i.sent.items) x.place)
    (received : j.received.items ≡ i.received.items ++ x.received ∷ [])
    (room : vec_capacity i.received ≤ vec_capacity j.received)
    (sent : j.sent ≡ i.sent)
    (home : j.home ≡ i.home)
    (pool : IsPassOf l.pool j.pass)
    (pass : view j.pass ≡ both_parts (view i.pass) (view x.pass))
    (long : length j.rings.items ≡ length l.shares.items)
    (others : (w : ℕ) → w ≢ x.place → slice_get j.rings.items w ≡ slice_get i.rings.items w) where
  logs : pairs_in j.received.items ≡ pairs_in i.received.items ++ x.received.pairs ∷ []
  logs = ap pairs_in received ∙ map-append (λ (m : LogModel). m.pairs) i.received.items (x.received ∷ [])

  count_logs : length (pairs_in i.received.items) ≡ n
  count_logs = length-map i.received.items (λ (m : LogModel). m.pairs) ∙ h.count

  pub next_joined : HasJoined l (n + 1) j
  next_joined = record {
    pool = pool;
    parts = let a = ap (λ (v : PoolView). v.parts) pass in let b = x.given.0 in let c = h.parts in omega arith;
    put = λ k. let a = ap (λ (v : PoolView). times k v.put) pass in let b = times_append k (view i.pass).put (view x.pass).put in let c = h.put k in let d = x.slots k in let e = ap (times k) nothing in
        let f = ap (λ (m : List (List Pair)). in_logs k m) logs in let g = total_push (λ (log : List Pair). times k (slots_of log)) (pairs_in i.received.items) x.received.pairs in omega arith;
    count = ap (λ (m : List LogModel). length m) received ∙ length-append i.received.items (x.received ∷ []) ∙ (let c = h.count in omega arith);
    long = (ap (λ s. length s.items) sent ∙ h.long.0, long);
    same = λ w lt. dite (ℕ_discrete w n)
        (λ e. ap (λ (m : List (List Pair)). log_of m w) logs ∙ ap (log_of (pairs_in i.received.items ++ x.received.pairs ∷ [])) e ∙ log_last (pairs_in i.received.items) x.received.pairs n count_logs ∙ same
        ∙ ap (log_of (pairs_in i.sent.items)) (place ∙ sym e) ∙ sym (ap (λ s. log_of (pairs_in s.items) w) sent))
        (λ ne. ap (λ (m : List (List Pair)). log_of m w) logs ∙ log_first (pairs_in i.received.items) x.received.pairs w (let c = count_logs in omega arith) ∙ h.same w (omega arith) ∙ sym (ap (λ s. log_of (pairs_in s.items) w) sent));
    left = λ w q p eq ep le. subst (λ (log : List Pair). IsSender (lane_of l) w log true q p) (sym (ap (λ s. log_of (pairs_in s.items) w) sent))
        (h.left w q p eq (sym (others w (λ e. absurd (omega arith))) ∙ ep) (omega arith));
    home = (ap (λ s. s.items) home ∙ h.home.0, (let a = ap (λ s. vec_capacity s) home in let b = h.home.1 in omega arith));
    room = let a = h.room in omega arith;
  }
