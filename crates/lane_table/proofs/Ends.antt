-- The ingest's seat takes in those of the workers, one by one.
use Rattle.std.proofs.Common.{◌≡◌, ◌≢◌, ℕ, zero, suc, ◌+◌, ◌<◌, Bool, true, false, cond, List, [], ◌∷◌, ◌++◌, length, get_or, refl, sym, ap, ◌∙◌, subst, arith, length-append}
use Rattle.std.specs.Prelude.{slice_get, Some}
use Rattle.std.specs.List.{remove}
use mathlib.Core.Logic.{dite}
use native.Mathlib.Decide.{ℕ_discrete}
use Rattle.std.proofs.lemmas.List.{length-map}
use Rattle.atomic_table.specs.Seated.{TableId}
use Rattle.lane_spec.specs.Counts.{times, IsEachOnce}
use Rattle.lane_spec.specs.Pairs.{Pair}
use Rattle.lane_core.specs.Seats.{log_of}
use Rattle.lane_core.proofs.Counting.{times_here, times_append, each_once}
use Rattle.lane_core.proofs.Views.{times_next}
use Rattle.lane_table.specs.declared.lane.WorkerSeat.{WorkerSeat}
use Rattle.lane_table.specs.declared.view.SeatView.{SeatView}
use Rattle.lane_table.specs.Rule.{numbers_from, mark_at}
use Rattle.lane_table.specs.Joins.{works, joined}
use Rattle.lane_table.specs.Ends.{IsEndedAt, AreEndedFrom, HasJoined}
use Rattle.lane_table.proofs.Joins.{at_number, works_not, works_so, length_numbers}
use Rattle.lane_table.proofs.Seats.{times_from, times_from_above}

pub front_is : (xs : List WorkerSeat) (x : WorkerSeat) → 0 < length xs → x ≡ get_or xs 0 x → xs ≡ x ∷ remove xs 0
front_is [] x lt e = absurd (omega arith)
front_is (y ∷ ys) x lt e = ap (λ z. z ∷ ys) (sym e)

pub ended_from : (id : TableId) (k : ℕ) (xs : List WorkerSeat) → ((w : ℕ) (x : WorkerSeat) → slice_get xs w ≡ Some x → IsEndedAt id (k + w) x) → AreEndedFrom id k xs
ended_from id k [] all = tt
ended_from id k (x ∷ xs) all = (
  subst (λ (n : ℕ). IsEndedAt id n x) (let e : k + 0 ≡ k = omega arith in e) (all 0 x refl),
  ended_from id (k + 1) xs (λ w y at. subst (λ (n : ℕ). IsEndedAt id n y) (let e : k + suc w ≡ k + 1 + w = omega arith in e) (all (suc w) y at)),
)

log_last : (xs : List (List Pair)) (y : List Pair) (n : ℕ) → length xs ≡ n → log_of (xs ++ y ∷ []) n ≡ y
log_last [] y zero e = refl
log_last [] y (suc n) e = absurd (omega arith)
log_last (x ∷ xs) y zero e = absurd (omega arith)
log_last (x ∷ xs) y (suc n) e = log_last xs y n (omega arith)

log_first : (xs : List (List Pair)) (y : List Pair) (r : ℕ) → r < length xs → log_of (xs ++ y ∷ []) r ≡ log_of xs r
log_first [] y r lt = absurd (omega arith)
log_first (x ∷ xs) y zero lt = refl
log_first (x ∷ xs) y (suc r) lt = log_first xs y r (omega arith)

module _ (workers n : ℕ) (sent received : List (List Pair)) (v : SeatView) (x : WorkerSeat) (h : HasJoined workers n sent received v) (place : x.place ≡ n) (took_end : x.ended ≡ true) (nothing : x.held.items ≡ []) (inside : n < workers) where
  abbrev u : SeatView
  u = x.seat.me.0

  roles_are : u.roles ≡ (n + 1) ∷ []
  roles_are = x.role ∙ ap (λ (k : ℕ). (k + 1) ∷ []) place

  mine : works u n ≡ true
  mine = works_so u n (let e = ap (times (n + 1)) roles_are in let t = times_here (n + 1) [] in omega arith)

  others : (r : ℕ) → r ≢ n → works u r ≡ false
  others r ne = works_not u r (ap (times (r + 1)) roles_are ∙ times_next (n + 1) (r + 1) [] (λ e. ne (omega arith)))

  abbrev log_in : ℕ → List Pair
  log_in k = cond (works u k) (log_of u.received k) (log_of v.received k)

  abbrev mark_in : ℕ → Bool
  mark_in k = cond (works u k) (mark_at u.ended k) (mark_at v.ended k)

  log_there : (r : ℕ) → r < workers → log_of (joined v u).received r ≡ log_in r
  log_there r lt = at_number log_in [] 0 (length v.received) r (let l = h.long.0 in omega arith) ∙ ap log_in (let e : 0 + r ≡ r = omega arith in e)

  mark_there : (r : ℕ) → r < workers → mark_at (joined v u).ended r ≡ mark_in r
  mark_there r lt = at_number mark_in false 0 (length v.ended) r (let l = h.long.1 in omega arith) ∙ ap mark_in (let e : 0 + r ≡ r = omega arith in e)

  abbrev more : List (List Pair)
  more = received ++ x.received.pairs ∷ []

  pub has_joined : HasJoined workers (n + 1) sent more (joined v u)
  has_joined = record {
    found = h.found;
    held = (λ j. held_none j ++ h.held j);
    sent_is = h.sent_is;
    long = (length-map (numbers_from 0 (length v.received)) log_in ∙ length_numbers 0 (length v.received) ∙ h.long.0, length-map (numbers_from 0 (length v.ended)) mark_in ∙ length_numbers 0 (length v.ended) ∙ h.long.1);
    ingest = let a = times_append 0 u.roles v.roles in let b = h.ingest in omega arith;
    count = length-append received (x.received.pairs ∷ []) ∙ (let e = h.count in omega arith);
    roles = λ r lt. let a = times_append (r + 1) u.roles v.roles in dite (ℕ_discrete r n)
        (λ e. let F : ℕ → Type 0 = λ k. 0 < times (k + 1) (u.roles ++ v.roles) in subst F (sym e) (let b = times_append (n + 1) u.roles v.roles in let d = ap (times (n + 1)) roles_are in let t = times_here (n + 1) [] in omega arith))
        (λ ne. let b = h.roles r (omega arith) in omega arith);
    ended = λ r lt. dite (ℕ_discrete r n)
        (λ e. ap (mark_at (joined v u).ended) e ∙ mark_there n inside ∙ ap (λ b. cond b (mark_at u.ended n) (mark_at v.ended n)) mine ∙ ap (mark_at u.ended) (sym place) ∙ x.mark ∙ took_end)
        (λ ne. mark_there r (omega arith) ∙ ap (λ b. cond b (mark_at u.ended r) (mark_at v.ended r)) (others r ne) ∙ h.ended r (omega arith));
    logs = λ r lt. dite (ℕ_discrete r n)
        (λ e. ap (log_of (joined v u).received) e ∙ log_there n inside ∙ ap (λ b. cond b (log_of u.received n) (log_of v.received n)) mine ∙ ap (log_of u.received) (sym place) ∙ sym x.log ∙ sym (log_last received x.received.pairs n h.count) ∙ ap (log_of more) (sym e))
        (λ ne. log_there r (omega arith) ∙ ap (λ b. cond b (log_of u.received r) (log_of v.received r)) (others r ne) ∙ h.logs r (omega arith) ∙ sym (log_first received x.received.pairs r (let c = h.count in omega arith)));
  } where
    held_none : u.held ≡ []
    held_none = sym x.list ∙ nothing

-- each slot once
pub all_once : (n : ℕ) → IsEachOnce n (numbers_from 0 n)
all_once n = each_once n (numbers_from 0 n) (λ i lt. times_from i 0 n (omega arith) (omega arith)) (λ i le. times_from_above i 0 n (omega arith))

pub all_roles : (workers : ℕ) (sent received : List (List Pair)) (v : SeatView) → HasJoined workers workers sent received v → (r : ℕ) → r < workers + 1 → 0 < times r v.roles
all_roles workers sent received v h zero lt = h.ingest
all_roles workers sent received v h (suc r) lt = subst (λ (k : ℕ). 0 < times k v.roles) (let e : r + 1 ≡ suc r = omega arith in e) (h.roles r (omega arith))
