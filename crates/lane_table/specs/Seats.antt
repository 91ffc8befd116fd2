-- A lane on a table and its seats, in the words of the trait of lanes.
use Rattle.std.specs.Prelude.{◌≡◌, ℕ, ◌-◌, ◌^◌, ◌<◌, ◌≤◌, min, Bool, true, false, map, length, slice_index, Some}
use Rattle.lane_core.specs.declared.kit.Got.{Got}
use Rattle.lane_core.specs.declared.kit.Got.TheVariants.{Packet, Nothing, End}
use Rattle.lane_core.specs.View.{pairs_in}
use Rattle.lane_core.specs.Seats.{LaneFacts, IngestFacts, WorkerFacts}
use Rattle.lane_table.specs.declared.lane.TableLane.{TableLane}
use Rattle.lane_table.specs.declared.lane.IngestSeat.{IngestSeat}
use Rattle.lane_table.specs.declared.lane.WorkerSeat.{WorkerSeat}
use Rattle.lane_table.specs.Logs.{rooms_in}

-- a view's count, which has no last value, as a count of 64 bits
abbrev pub capped : ℕ → ℕ
capped n = min n (2 ^ 64 - 1)

abbrev pub lane_of : TableLane → LaneFacts
lane_of l = record {
  capture = l.table.shared.key.capture.value;
  buffers = l.buffers;
  bytes = l.bytes;
  shares = l.table.shared.key.shares.value.items;
}

abbrev pub ingest_of : IngestSeat → IngestFacts
ingest_of i = record {
  sent = pairs_in i.sent.items;
  held = i.held.items;
  missed = i.missed;
  finished = i.finished;
  finds = map capped i.seat.me.0.found;
}

abbrev pub worker_of : WorkerSeat → WorkerFacts
worker_of x = record {
  place = x.place;
  received = x.received.pairs;
  held = x.held.items;
  ended = x.ended;
  idle = x.idle;
  finds = capped (slice_index x.seat.me.0.empty x.place);
}

-- how often the seat found the word of buffer i taken, and how often a worker found its next cell empty
abbrev pub found_by : IngestSeat → ℕ → ℕ
found_by s i = slice_index s.seat.me.0.found i

abbrev pub empty_finds : WorkerSeat → ℕ
empty_finds x = slice_index x.seat.me.0.empty x.place

abbrev pub is_nothing : Got → Bool
is_nothing (Packet p) = false
is_nothing Nothing = true
is_nothing End = false

-- the seat was made with this lane, and has room for what may be sent
pub record IsIngestOf (l : TableLane) (i : IngestSeat) : Type 0 where
  pub table : i.seat.table_id ≡ l.table.shared.table_id
  pub about : i.seat.me.0.about ≡ Some l.table.shared.key
  pub count : length i.sent.items ≡ l.workers
  pub rooms : (w : ℕ) → slice_index l.table.shared.key.shares.value.items w ≤ slice_index (rooms_in i.sent.items) w

-- the same of a worker's seat, and what may be sent to it
pub record IsWorkerOf (l : TableLane) (x : WorkerSeat) : Type 0 where
  pub table : x.seat.table_id ≡ l.table.shared.table_id
  pub about : x.seat.me.0.about ≡ Some l.table.shared.key
  pub place : x.place < l.workers
  pub room : slice_index l.table.shared.key.shares.value.items x.place ≤ x.received.room
