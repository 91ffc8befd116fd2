-- The pool is filled, buffer by buffer, and the passes and seats are listed.
use Rattle.std.proofs.Common.{◌≡◌, ℕ, zero, suc, ◌+◌, ◌-◌, ◌<◌, ◌≤◌, List, [], ◌∷◌, ◌++◌, length, replicate, refl, sym, ap, ◌∙◌, subst, arith, ⊎_elim, Option, Some}
use Rattle.std.specs.Prelude.{slice_get}
use Rattle.std.proofs.lemmas.List.{length-map}
use mathlib.Core.Logic.{dite}
use native.Mathlib.Decide.{ℕ_discrete}
use Rattle.packet_owner.specs.Buffer.{BufferModel}
use Rattle.lane_spec.specs.Counts.{times, total}
use Rattle.lane_spec.specs.Pairs.{Pair}
use Rattle.lane_core.specs.Seats.{log_of, IsNewWorker}
use Rattle.lane_core.proofs.Counting.{times_here}
use Rattle.lane_core.proofs.Views.{times_next, same_length}
use Rattle.lane_queue.specs.declared.lane.QueueLane.{QueueLane}
use Rattle.lane_queue.specs.declared.lane.QueueWorker.{QueueWorker}
use Rattle.lane_queue.specs.declared.pool_rule.PoolView.{PoolView}
use Rattle.lane_queue.specs.PoolRule.{pool_view, numbers_from, size_of, filled_view, MayFill, Fills, slots_in, Whole}
use Rattle.lane_queue.specs.Lists.{in_logs}
use Rattle.lane_queue.specs.Seats.{worker_of, IsWorkerOf}
use Rattle.lane_queue.specs.Starts.{AreNewWorkers}
use Rattle.lane_queue.proofs.Lists.{get_last}

numbers_next : (a n : ℕ) → 0 < n → numbers_from a n ≡ a ∷ numbers_from (a + 1) (n - 1)
numbers_next a zero h = absurd (omega arith)
numbers_next a (suc n) h = ap (λ k. a ∷ numbers_from (a + 1) k) (let e : n ≡ suc n - 1 = omega arith in e)

numbers_last : (a n : ℕ) → numbers_from a (n + 1) ≡ numbers_from a n ++ (a + n) ∷ []
numbers_last a n = numbers_next a (n + 1) (omega arith) ∙ ap (λ j. a ∷ numbers_from (a + 1) j) (let e : n + 1 - 1 ≡ n = omega arith in e) ∙ more a n where
  more : (a n : ℕ) → a ∷ numbers_from (a + 1) n ≡ numbers_from a n ++ (a + n) ∷ []
  more a zero = ap (λ k. k ∷ []) (let e : a ≡ a + 0 = omega arith in e)
  more a (suc n) = ap (λ l. a ∷ l) (more (a + 1) n ∙ ap (λ k. numbers_from (a + 1) n ++ k ∷ []) (let e : a + 1 + n ≡ a + suc n = omega arith in e))

times_below : (i a n : ℕ) → i < a → times i (numbers_from a n) ≡ 0
times_below i a zero lt = refl
times_below i a (suc n) lt = times_next a i (numbers_from (a + 1) n) (λ e. absurd (omega arith)) ∙ times_below i (a + 1) n (omega arith)

-- each number from a on stands once among so many
pub times_from : (i a n : ℕ) → a ≤ i → i < a + n → times i (numbers_from a n) ≡ 1
times_from i a zero le lt = absurd (omega arith)
times_from i a (suc n) le lt = dite (ℕ_discrete i a)
    (λ e. subst (λ (k : ℕ). times i (k ∷ numbers_from (k + 1) n) ≡ 1) e (times_here i (numbers_from (i + 1) n) ∙ (let z = times_below i (i + 1) n (omega arith) in omega arith)))
    (λ ne. times_next a i (numbers_from (a + 1) n) (λ e. ne e) ∙ times_from i (a + 1) n (omega arith) (omega arith))

pub times_past : (i a n : ℕ) → a + n ≤ i → times i (numbers_from a n) ≡ 0
times_past i a zero le = refl
times_past i a (suc n) le = times_next a i (numbers_from (a + 1) n) (λ e. absurd (omega arith)) ∙ times_past i (a + 1) n (omega arith)

size_next : (bytes n : ℕ) → 0 < n → size_of bytes n ≡ Some (bytes, n)
size_next bytes zero lt = absurd (omega arith)
size_next bytes (suc n) lt = refl

pub size_is : (bytes n : ℕ) → 0 < n → size_of bytes n ≡ Some (bytes, n)
size_is bytes n lt = size_next bytes n lt

pub may_fill : (bytes n : ℕ) (v : PoolView) (b : BufferModel) → v ≡ filled_view 1024 bytes n → b.slot ≡ n → b.room ≡ bytes → MayFill v.size b
may_fill bytes n v b is slot room = subst (λ (s : Option (ℕ × ℕ)). MayFill s b) (sym (ap (λ (y : PoolView). y.size) is)) (filled n slot) where
  filled : (n : ℕ) → b.slot ≡ n → MayFill (size_of bytes n) b
  filled zero slot = tt
  filled (suc n) slot = (room, omega arith)

pub filled_next : (bytes n : ℕ) (v w : PoolView) (b : BufferModel) → v ≡ filled_view 1024 bytes n → b.slot ≡ n → b.room ≡ bytes → Fills v b w → w ≡ filled_view 1024 bytes (n + 1)
filled_next bytes n v w b is slot room f = f ∙ (λ j. pool_view (is j).parts (is j).takes ((is j).put ++ slot j ∷ []) (is j).taken (Some (room j, slot j + 1)))
    ∙ (λ j. pool_view 1024 Rattle.std.specs.Prelude.true (put j) [] (sym (size_next bytes (n + 1) (omega arith)) j)) where
      put : numbers_from 0 n ++ n ∷ [] ≡ numbers_from 0 (n + 1)
      put = ap (λ (k : ℕ). numbers_from 0 n ++ k ∷ []) (let e : n ≡ 0 + n = omega arith in e) ∙ sym (numbers_last 0 n)

length_numbers : (a n : ℕ) → length (numbers_from a n) ≡ n
length_numbers a zero = refl
length_numbers a (suc n) = ap suc (length_numbers (a + 1) n)

-- as many buffers lie there as were put
pub full_is : (bytes n : ℕ) (v : PoolView) (items : List BufferModel) → v ≡ filled_view 1024 bytes n → Whole v items → length items ≡ n
full_is bytes n v items is whole = sym (length-map items (λ (b : BufferModel). b.slot)) ∙ same_length (slots_in items) (numbers_from 0 n)
    (λ i. let a = ap (λ (y : PoolView). times i y.taken) is in let b = ap (λ (y : PoolView). times i y.put) is in let c = whole i in omega arith) ∙ length_numbers 0 n

pub none_sent : (n : ℕ) → total (λ (pairs : List Pair). length pairs) (replicate n []) ≡ 0
none_sent zero = refl
none_sent (suc n) = let r = none_sent n in omega arith

pub no_slots : (i n : ℕ) → in_logs i (replicate n []) ≡ 0
no_slots i zero = refl
no_slots i (suc n) = let r = no_slots i n in omega arith

pub none_at : (n w : ℕ) → log_of (replicate n []) w ≡ []
none_at zero w = refl
none_at (suc n) zero = refl
none_at (suc n) (suc w) = none_at n w

pub no_workers : (l : QueueLane) (xs : List QueueWorker) → xs ≡ [] → AreNewWorkers l xs
no_workers l [] e w x at = absurd (cc)
no_workers l (y ∷ ys) e w x at = absurd (cc)

pub new_last : (l : QueueLane) (n : ℕ) (xs : List QueueWorker) (x : QueueWorker) → AreNewWorkers l xs → length xs ≡ n → IsWorkerOf l x → IsNewWorker n (worker_of x) → AreNewWorkers l (xs ++ x ∷ [])
new_last l n xs x all long own new w y at = ⊎_elim (λ (t : slice_get xs w ≡ Some y). all w y t)
    (λ (t : (w ≡ length xs) × (x ≡ y)). subst (λ (z : ℕ × QueueWorker). IsWorkerOf l z.1 × IsNewWorker z.0 (worker_of z.1)) (λ j. (sym (t.0 ∙ long) j, t.1 j)) (own, new))
    (get_last xs x y w at)
