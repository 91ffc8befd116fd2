-- What a lane ends with.
use Rattle.std.specs.Prelude.{◌≡◌, ℕ, ◌+◌, ◌<◌, ◌≤◌, true, List, [], ◌∷◌, map, length, nat_lt, vec_capacity}
use Rattle.crossbeam_queue.specs.Passes.{view, IsPassOf}
use Rattle.lane_spec.specs.Counts.{times, one_if}
use Rattle.lane_spec.specs.Pairs.{Pair}
use Rattle.lane_core.specs.View.{pairs_in}
use Rattle.lane_core.specs.Seats.{log_of}
use Rattle.lane_queue.specs.declared.lane.QueueLane.{QueueLane}
use Rattle.lane_queue.specs.declared.lane.QueueIngest.{QueueIngest}
use Rattle.lane_queue.specs.declared.lane.QueueWorker.{QueueWorker}
use Rattle.lane_queue.specs.Lists.{Each, in_logs}
use Rattle.lane_queue.specs.Seats.{lane_of, IsSender, IsWorkerOf}

-- the seat of worker w, which took END and holds nothing
abbrev pub IsEndedWorker : QueueLane → ℕ → QueueWorker → Type 0
IsEndedWorker l w x = IsWorkerOf l x × (x.place ≡ w) × (x.ended ≡ true) × (x.held.items ≡ [])

-- such seats from w on, in order
abbrev pub AreEndedFrom : QueueLane → ℕ → List QueueWorker → Type 0
AreEndedFrom l w [] = Unit {0}
AreEndedFrom l w (x ∷ xs) = IsEndedWorker l w x × AreEndedFrom l (w + 1) xs

-- what each worker received
abbrev pub logs_of : List QueueWorker → List (List Pair)
logs_of xs = map (λ (x : QueueWorker). x.received.pairs) xs

-- the ingest's seat has taken in those of the first n workers, and has listed what each of them received
pub record HasJoined (l : QueueLane) (n : ℕ) (i : QueueIngest) : Type 0 where
  pub pool : IsPassOf l.pool i.pass
  pub parts : (view i.pass).parts + length l.shares.items ≡ 1024 + n
  pub put : (k : ℕ) → times k (view i.pass).put ≡ one_if (nat_lt k l.buffers) + in_logs k (pairs_in i.received.items)
  pub count : length i.received.items ≡ n
  pub long : (length i.sent.items ≡ length l.shares.items) × (length i.rings.items ≡ length l.shares.items)
  pub same : (w : ℕ) → w < n → log_of (pairs_in i.received.items) w ≡ log_of (pairs_in i.sent.items) w
  -- the rings of the other workers are as they were
  pub left : Each (λ w q p. n ≤ w
      → IsSender (lane_of l) w (log_of (pairs_in i.sent.items) w) true q p) l.rings.items i.rings.items
  pub home : (i.home.items ≡ []) × (l.buffers ≤ vec_capacity i.home)
  pub room : length l.shares.items ≤ vec_capacity i.received
