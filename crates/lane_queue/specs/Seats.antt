-- A lane on queues and its seats, in the words of the trait of lanes.
use Rattle.std.specs.Prelude.{◌≡◌, ℕ, ◌+◌, ◌<◌, ◌≤◌, Bool, List, [], ◌∷◌, length, slice_index, Option, Some}
use Rattle.std.specs.Prelude.{vec_capacity}
use Rattle.crossbeam_queue.specs.Passes.{Pass, view, IsPassOf}
use Rattle.crossbeam_queue.specs.declared.array_queue.Doing.{Doing}
use Rattle.crossbeam_queue.specs.declared.array_queue.Slotted.{Slotted}
use Rattle.lane_spec.specs.Counts.{times}
use Rattle.lane_spec.specs.Pairs.{Pair}
use Rattle.lane_core.specs.View.{pairs_in}
use Rattle.lane_core.specs.Seats.{LaneFacts, IngestFacts, WorkerFacts, log_of}
use Rattle.lane_queue.specs.declared.ring_rule.RingAbout.{RingAbout}
use Rattle.lane_queue.specs.declared.ring_rule.Item.{Item}
use Rattle.lane_queue.specs.declared.ring_rule.RingView.{RingView}
use Rattle.lane_queue.specs.declared.lane.QueueLane.{QueueLane}
use Rattle.lane_queue.specs.declared.lane.QueueIngest.{QueueIngest}
use Rattle.lane_queue.specs.declared.lane.QueueWorker.{QueueWorker}
use Rattle.lane_queue.specs.RingRule.{first_view, sender_view, getter_view}
use Rattle.lane_queue.specs.Lists.{Each, AtPlace, rooms_in}

abbrev pub lane_of : QueueLane → LaneFacts
lane_of l = record { capture = l.key.shared.key.value; buffers = l.buffers; bytes = l.bytes; shares = l.shares.items }

abbrev pub ingest_of : QueueIngest → IngestFacts
ingest_of i = record {
  sent = pairs_in i.sent.items;
  held = i.held.items;
  missed = i.missed;
  finished = i.finished;
  finds = i.finds ∷ [];
}

abbrev pub worker_of : QueueWorker → WorkerFacts
worker_of x = record {
  place = x.place;
  received = x.received.pairs;
  held = x.held.items;
  ended = x.ended;
  idle = x.idle;
  finds = x.finds;
}

-- what the ring of worker w is made with
abbrev pub about_of : QueueLane → ℕ → RingAbout
about_of l w = record {
  buffers = l.buffers;
  bytes = l.bytes;
  share = slice_index l.shares.items w;
  capture = l.key.shared.key;
}

pub record IsAbout (lane : LaneFacts) (w : ℕ) (a : RingAbout) : Type 0 where
  pub buffers : a.buffers ≡ lane.buffers
  pub bytes : a.bytes ≡ lane.bytes
  pub share : a.share ≡ slice_index lane.shares w
  pub capture : a.capture.value ≡ lane.capture

module _ {Q A : Type 0} where
  -- a pass of ring w that has this view
  pub record IsRingPass (lane : LaneFacts) (w : ℕ) (seen : RingAbout
      → RingView) (q : Slotted (Option Item) (Doing Item RingView) Q A) (p : Pass Item RingView) : Type 0 where
    pub pass : IsPassOf q p
    pub about : RingAbout
    pub of_lane : IsAbout lane w about
    pub knows : view p ≡ seen about

  -- the one pass of a ring before it is shared
  abbrev pub IsNewPass : Slotted (Option Item) (Doing Item RingView) Q A → Pass Item RingView → Type 0
  IsNewPass q p = IsPassOf q p × (view p ≡ first_view)

-- one fact of each of the first n, and another of the others
pub record IsAmong (n w : ℕ) (first later : Type 0) : Type 0 where
  pub among : w < n → first
  pub behind : n ≤ w → later

-- the ingest's pass of ring w, in which this was sent, and END was put or not
abbrev pub IsSender : {Q A : Type 0} → LaneFacts → ℕ → List Pair → Bool
    → Slotted (Option Item) (Doing Item RingView) Q A → Pass Item RingView → Type 0
IsSender lane w sent put q p = IsRingPass lane w (sender_view sent put) q p

-- the worker's pass of ring w, from which this was got, and END was taken or not
abbrev pub IsGetter : {Q A : Type 0} → LaneFacts → ℕ → List Pair → Bool
    → Slotted (Option Item) (Doing Item RingView) Q A → Pass Item RingView → Type 0
IsGetter lane w got taken q p = IsRingPass lane w (getter_view got taken) q p

-- the seat was made with this lane, and has room for what may be sent
pub record IsIngestOf (l : QueueLane) (i : QueueIngest) : Type 0 where
  pub pool : IsPassOf l.pool i.pass
  pub size : (view i.pass).size ≡ Some (l.bytes, l.buffers)
  -- it put each buffer into the pool once, and no other
  pub once : (k : ℕ) → k < l.buffers → times k (view i.pass).put ≡ 1
  pub past : (k : ℕ) → l.buffers ≤ k → times k (view i.pass).put ≡ 0
  pub parts : (view i.pass).parts + length l.shares.items ≡ 1024
  pub below : (k : ℕ) → l.buffers ≤ k → times k i.held.items ≡ 0
  pub room : l.buffers ≤ vec_capacity i.held
  pub book : (i.home.items ≡ []) × (i.received.items ≡ []) × (l.buffers ≤ vec_capacity i.home)
      × (length l.shares.items ≤ vec_capacity i.received)
  pub count : (length i.sent.items ≡ length l.shares.items) × (length i.rings.items ≡ length l.shares.items)
  pub rooms : (w : ℕ) → slice_index l.shares.items w ≤ slice_index (rooms_in i.sent.items) w
  pub senders : Each (λ w q p. IsSender (lane_of l) w
      (log_of (pairs_in i.sent.items) w) i.finished q p) l.rings.items i.rings.items

-- the same of a worker's seat, and what may be sent to it
pub record IsWorkerOf (l : QueueLane) (x : QueueWorker) : Type 0 where
  pub pool : IsPassOf l.pool x.pass
  pub size : (view x.pass).size ≡ Some (l.bytes, l.buffers)
  pub below : (k : ℕ) → l.buffers ≤ k → times k x.held.items ≡ 0
  pub place : x.place < length l.shares.items
  pub room : slice_index l.shares.items x.place ≤ x.received.room
  pub getter : AtPlace (λ q. IsGetter (lane_of l) x.place x.received.pairs x.ended q x.ring) l.rings.items x.place
