-- A row of full slots, and of new seats, grows and is read; and what the first seats know.
use Rattle.std.proofs.Common.{◌≡◌, ℕ, zero, suc, ◌+◌, ◌-◌, ◌<◌, ◌≤◌, List, [], ◌∷◌, ◌++◌, length, get_or, replicate, refl, ap, ◌∙◌, subst, arith}
use Rattle.std.specs.Prelude.{slice_get, Some}
use mathlib.Core.Option.{some}
use lib.ListN.{get_elem?}
use Rattle.packet_owner.specs.Buffer.{BufferModel}
use Rattle.lane_spec.specs.Counts.{total}
use Rattle.lane_spec.specs.Pairs.{Pair}
use Rattle.lane_core.specs.Log.{LogModel}
use Rattle.lane_core.specs.Seats.{IsNewWorker}
use Rattle.lane_table.specs.Logs.{rooms_in}
use Rattle.lane_table.specs.Seats.{worker_of, IsWorkerOf}
use Rattle.lane_table.specs.declared.lane.TableLane.{TableLane}
use Rattle.lane_table.specs.declared.lane.WorkerSeat.{WorkerSeat}
use Rattle.lane_table.specs.declared.view.LaneKey.{LaneKey}
use Rattle.lane_table.specs.declared.view.SeatView.{SeatView}
use Rattle.lane_table.specs.declared.view.Stored.{Stored}
use Rattle.lane_table.specs.declared.view.Stored.TheVariants.{Free}
use Rattle.lane_table.specs.Rule.{numbers_from, first_view}
use Rattle.lane_table.specs.Hands.{head_of, tail_of, with_roles, first_role, later_roles}
use Rattle.lane_table.specs.Starts.{IsFullFrom, AreNewFrom}

pub full_last : (bytes a n : ℕ) (xs : List Stored) (b : BufferModel) → IsFullFrom bytes a xs → a + length xs ≡ n → b.slot ≡ n → b.room ≡ bytes → IsFullFrom bytes a (xs ++ Free b ∷ [])
full_last bytes a n [] b h e slot room = ((b, refl, (let is : n ≡ a = omega arith in slot ∙ is), room), tt)
full_last bytes a n (x ∷ xs) b h e slot room = (h.0, full_last bytes (a + 1) n xs b h.1 (omega arith) slot room)

pub full_at : (bytes a i n : ℕ) (xs : List Stored) → IsFullFrom bytes a xs → i < length xs → a + i ≡ n → (b : BufferModel) × (get_elem? xs i ≡ some (Free b)) × (b.slot ≡ n) × (b.room ≡ bytes)
full_at bytes a i n [] h lt e = absurd (omega arith)
full_at bytes a zero n (x ∷ xs) h lt e = let f = h.0 in (f.0, ap some f.1, (let is : a ≡ n = omega arith in f.2 ∙ is), f.3)
full_at bytes a (suc i) n (x ∷ xs) h lt e = full_at bytes (a + 1) i n xs h.1 (omega arith) (omega arith)

pub zeros_at : (n j : ℕ) → ◌≡◌ {A = ℕ} (get_or (replicate n 0) j 0) 0
zeros_at zero j = refl
zeros_at (suc n) zero = refl
zeros_at (suc n) (suc j) = zeros_at n j

pub numbers_next : (a n : ℕ) → 0 < n → numbers_from a n ≡ a ∷ numbers_from (a + 1) (n - 1)
numbers_next a zero h = absurd (omega arith)
numbers_next a (suc n) h = ap (λ k. a ∷ numbers_from (a + 1) k) (let e : n ≡ suc n - 1 = omega arith in e)

pub numbers_last : (a n : ℕ) → numbers_from a (n + 1) ≡ numbers_from a n ++ (a + n) ∷ []
numbers_last a n = numbers_next a (n + 1) (omega arith) ∙ ap (λ j. a ∷ numbers_from (a + 1) j) (let e : n + 1 - 1 ≡ n = omega arith in e) ∙ more a n where
  more : (a n : ℕ) → a ∷ numbers_from (a + 1) n ≡ numbers_from a n ++ (a + n) ∷ []
  more a zero = ap (λ k. k ∷ []) (let e : a ≡ a + 0 = omega arith in e)
  more a (suc n) = ap (λ l. a ∷ l) (more (a + 1) n ∙ ap (λ k. numbers_from (a + 1) n ++ k ∷ []) (let e : a + 1 + n ≡ a + suc n = omega arith in e))

pub rooms_last : (xs : List LogModel) (y : LogModel) (j s : ℕ) → (j < length xs → s ≤ get_or (rooms_in xs) j 0) → (j ≡ length xs → s ≤ y.room) → j < length xs + 1 → s ≤ get_or (rooms_in (xs ++ y ∷ [])) j 0
rooms_last [] y zero s old new lt = new refl
rooms_last [] y (suc j) s old new lt = absurd (omega arith)
rooms_last (x ∷ xs) y zero s old new lt = old (omega arith)
rooms_last (x ∷ xs) y (suc j) s old new lt = rooms_last xs y j s (λ l. old (omega arith)) (λ e. new (ap suc e)) (omega arith)

pub none_sent : (n : ℕ) → total (λ (pairs : List Pair). length pairs) (replicate n []) ≡ 0
none_sent zero = refl
none_sent (suc n) = let r = none_sent n in omega arith

pub new_last : (l : TableLane) (k n : ℕ) (xs : List WorkerSeat) (x : WorkerSeat) → AreNewFrom l k xs → k + length xs ≡ n → IsWorkerOf l x → IsNewWorker n (worker_of x) → AreNewFrom l k (xs ++ x ∷ [])
new_last l k n [] x h e own new = ((own, subst (λ (j : ℕ). IsNewWorker j (worker_of x)) (let is : n ≡ k = omega arith in is) new), tt)
new_last l k n (y ∷ ys) x h e own new = (h.0, new_last l (k + 1) n ys x h.1 (omega arith) own new)

pub new_at : (l : TableLane) (k w n : ℕ) (xs : List WorkerSeat) (x : WorkerSeat) → AreNewFrom l k xs → slice_get xs w ≡ Some x → k + w ≡ n → IsWorkerOf l x × IsNewWorker n (worker_of x)
new_at l k w n [] x h at e = absurd (cc)
new_at l k zero n (y ∷ ys) x h at e = subst (λ (p : WorkerSeat × ℕ). IsWorkerOf l p.0 × IsNewWorker p.1 (worker_of p.0)) (let same : y ≡ x = cc in let is : k ≡ n = omega arith in λ j. (same j, is j)) h.0
new_at l k (suc w) n (y ∷ ys) x h at e = new_at l (k + 1) w n ys x h.1 at (omega arith)

-- the seat that gets the next role, and the one that is left
pub next_role : (z : LaneKey) (k n : ℕ) (v : SeatView) → 0 < n → v ≡ with_roles (numbers_from k n ++ 0 ∷ []) (first_view z) → first_role v ≡ with_roles (k ∷ []) (first_view z)
next_role z k n v some_ is = ap first_role is ∙ ap (λ l. with_roles (head_of (l ++ 0 ∷ [])) (first_view z)) (numbers_next k n some_)

pub roles_left : (z : LaneKey) (k n : ℕ) (v : SeatView) → 0 < n → v ≡ with_roles (numbers_from k n ++ 0 ∷ []) (first_view z) → later_roles v ≡ with_roles (numbers_from (k + 1) (n - 1) ++ 0 ∷ []) (first_view z)
roles_left z k n v some_ is = ap later_roles is ∙ ap (λ l. with_roles (tail_of (l ++ 0 ∷ [])) (first_view z)) (numbers_next k n some_)
