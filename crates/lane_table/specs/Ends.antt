-- What a lane ends with.
use Rattle.std.specs.Prelude.{◌≡◌, ℕ, ◌+◌, ◌<◌, true, List, [], ◌∷◌, map, length}
use Rattle.atomic_table.specs.Seated.{TableId}
use Rattle.lane_spec.specs.Counts.{times}
use Rattle.lane_spec.specs.Pairs.{Pair}
use Rattle.lane_core.specs.Seats.{log_of}
use Rattle.lane_table.specs.declared.lane.WorkerSeat.{WorkerSeat}
use Rattle.lane_table.specs.declared.view.SeatView.{SeatView}
use Rattle.lane_table.specs.Rule.{mark_at}

-- the seat of worker w at this table, which took END and holds nothing
abbrev pub IsEndedAt : TableId → ℕ → WorkerSeat → Type 0
IsEndedAt id w x = (x.seat.table_id ≡ id) × (x.place ≡ w) × (x.ended ≡ true) × (x.held.items ≡ [])

-- such seats from w on, in order
abbrev pub AreEndedFrom : TableId → ℕ → List WorkerSeat → Type 0
AreEndedFrom id w [] = Unit {0}
AreEndedFrom id w (x ∷ xs) = IsEndedAt id w x × AreEndedFrom id (w + 1) xs

-- what each worker received
abbrev pub logs_of : List WorkerSeat → List (List Pair)
logs_of xs = map (λ (x : WorkerSeat). x.received.pairs) xs

-- the view of the ingest's seat that has taken in those of the first n workers, who took END; received is what each of
-- them received
pub record HasJoined (workers n : ℕ) (sent received : List (List Pair)) (v : SeatView) : Type 0 where
  pub found : 0 < length v.found
  pub held : v.held ≡ []
  pub sent_is : v.sent ≡ sent
  pub long : (length v.received ≡ workers) × (length v.ended ≡ workers)
  pub ingest : 0 < times 0 v.roles
  pub count : length received ≡ n
  pub roles : (r : ℕ) → r < n → 0 < times (r + 1) v.roles
  pub ended : (r : ℕ) → r < n → mark_at v.ended r ≡ true
  pub logs : (r : ℕ) → r < n → log_of v.received r ≡ log_of received r
