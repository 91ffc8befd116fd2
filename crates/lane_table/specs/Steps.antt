-- What a send makes of the ingest's view, and a receive of a worker's.
use Rattle.std.specs.Prelude.{◌≡◌, ◌≢◌, true, ℕ, ◌<◌, length, slice_index, ◌+◌, ◌-◌, ◌/◌, ◌%◌, List, [], ◌∷◌, ◌++◌}
use Rattle.std.specs.Prelude.{slice_set, Some}
use Rattle.atomic_table.specs.Table.{Me, Step, rest}
use Rattle.lane_spec.specs.Counts.{times, without}
use Rattle.lane_spec.specs.Pairs.{Pair}
use Rattle.packet_owner.specs.Packet.{PacketModel as Packet}
use Rattle.lane_core.specs.Seats.{IsRecord, log_of}
use Rattle.lane_table.specs.declared.view.Stored.TheVariants.{Empty, Filled, Free}
use Rattle.packet_owner.specs.Buffer.{BufferModel as Buffer}
use Rattle.lane_table.specs.declared.view.LaneKey.{LaneKey}
use Rattle.lane_table.specs.declared.view.Stored.{Stored}
use Rattle.lane_table.specs.declared.view.SeatView.{SeatView}
use Rattle.lane_table.specs.Rule.{Below}
use Rattle.lane_table.specs.Cells.{END, entry_word}

abbrev pub sent_by : ℕ → ℕ → ℕ → SeatView → SeatView
sent_by w i k v = record {
  roles = v.roles;
  held = without i v.held;
  out = [];
  claimed = v.claimed;
  sent = slice_set v.sent w (log_of v.sent w ++ (i, k) ∷ []);
  received = v.received;
  ends = v.ends;
  ended = v.ended;
  found = v.found;
  empty = v.empty;
  about = v.about;
}

-- what the number of a word says: which ring it is of; and what an entry says: its slot and its number
abbrev pub ring_in : ℕ → ℕ → ℕ
ring_in n word = (word - n) / (n + 1)

abbrev pub slot_in : ℕ → ℕ
slot_in x = (x - 1) % 2048

abbrev pub number_in : ℕ → ℕ
number_in x = (x - 1) / 2048

pub record Sends (st : Step Stored) (m : Me Stored SeatView) (n : ℕ) (m' : Me Stored SeatView) : Type 0 where
  pub free : n ≡ 0
  pub seat : m' ≡ (sent_by (ring_in st.slots st.word) (slot_in st.first) (number_in st.first) m.0, rest m.1)

abbrev pub received_by : ℕ → Pair → SeatView → SeatView
received_by w q v = record {
  roles = v.roles;
  held = v.held ++ q.0 ∷ [];
  out = q.0 ∷ [];
  claimed = v.claimed;
  sent = v.sent;
  received = slice_set v.received w (log_of v.received w ++ q ∷ []);
  ends = v.ends;
  ended = v.ended;
  found = v.found;
  empty = v.empty;
  about = v.about;
}

abbrev pub ended_by : ℕ → SeatView → SeatView
ended_by w v = record {
  roles = v.roles;
  held = v.held;
  out = v.out;
  claimed = v.claimed;
  sent = v.sent;
  received = v.received;
  ends = v.ends;
  ended = slice_set v.ended w true;
  found = v.found;
  empty = v.empty;
  about = v.about;
}

abbrev pub empty_by : ℕ → SeatView → SeatView
empty_by w v = record {
  roles = v.roles;
  held = v.held;
  out = v.out;
  claimed = v.claimed;
  sent = v.sent;
  received = v.received;
  ends = v.ends;
  ended = v.ended;
  found = v.found;
  empty = slice_set v.empty w (slice_index v.empty w + 1);
  about = v.about;
}

-- the worker got the next packet: as it was sent, above all that it had got, in a slot that it did not hold
pub record GotNext (z : LaneKey) (w : ℕ) (v : SeatView) (c : List (ℕ
    × Stored)) (n : ℕ) (m' : Me Stored SeatView) : Type 0 where
  pub pair : Pair
  pub word : n ≡ entry_word pair
  pub left : length (log_of v.received w) < slice_index z.shares.value.items w
  pub inside : pair.0 < z.buffers
  pub packet : Packet
  pub seat : m' ≡ (received_by w pair v, (pair.0, Filled packet) ∷ c)
  pub slot : packet.slot ≡ pair.0
  pub room : packet.room ≡ z.bytes
  pub entry : IsRecord z.capture.value pair.1 packet
  pub above : Below pair.1 (log_of v.received w)
  pub fewer : length v.held < z.buffers
  pub alone : times pair.0 v.held ≡ 0

pub record Received (z : LaneKey) (w : ℕ) (v : SeatView) (c : List (ℕ
    × Stored)) (n : ℕ) (m' : Me Stored SeatView) : Type 0 where
  pub nothing : n ≡ 0 → m' ≡ (empty_by w v, c)
  pub last : n ≡ END → m' ≡ (ended_by w v, c)
  pub next : n ≢ 0 → n ≢ END → GotNext z w v c n m'

abbrev pub claimed_by : ℕ → SeatView → SeatView
claimed_by i v = record {
  roles = v.roles;
  held = v.held ++ i ∷ [];
  out = i ∷ [];
  claimed = v.claimed ++ i ∷ [];
  sent = v.sent;
  received = v.received;
  ends = v.ends;
  ended = v.ended;
  found = v.found;
  empty = v.empty;
  about = v.about;
}

abbrev pub missed_by : ℕ → SeatView → SeatView
missed_by i v = record {
  roles = v.roles;
  held = v.held;
  out = v.out;
  claimed = v.claimed;
  sent = v.sent;
  received = v.received;
  ends = v.ends;
  ended = v.ended;
  found = slice_set v.found i (slice_index v.found i + 1);
  empty = v.empty;
  about = v.about;
}

pub record WonSlot (z : LaneKey) (i : ℕ) (v : SeatView) (c : List (ℕ × Stored)) (m' : Me Stored SeatView) : Type 0 where
  pub buffer : Buffer
  pub seat : m' ≡ (claimed_by i v, (i, Free buffer) ∷ c)
  pub slot : buffer.slot ≡ i
  pub room : buffer.room ≡ z.bytes
  pub fewer : length v.held < z.buffers
  -- it did not hold the buffer
  pub alone : times i v.held ≡ 0

pub record Claims (z : LaneKey) (i : ℕ) (v : SeatView) (c : List (ℕ
    × Stored)) (n : ℕ) (m' : Me Stored SeatView) : Type 0 where
  -- the word was taken: this ingest has claimed i before
  pub lost : n ≡ 0 → (m' ≡ (missed_by i v, c)) × (0 < times i v.claimed)
  pub won : n ≢ 0 → WonSlot z i v c m'

-- the slot i is in the seat's own list of slots; it is put back; and its buffer went home
abbrev pub taken_by : ℕ → SeatView → SeatView
taken_by i v = record {
  roles = v.roles;
  held = v.held;
  out = i ∷ [];
  claimed = v.claimed;
  sent = v.sent;
  received = v.received;
  ends = v.ends;
  ended = v.ended;
  found = v.found;
  empty = v.empty;
  about = v.about;
}

abbrev pub settled_by : SeatView → SeatView
settled_by v = record {
  roles = v.roles;
  held = v.held;
  out = [];
  claimed = v.claimed;
  sent = v.sent;
  received = v.received;
  ends = v.ends;
  ended = v.ended;
  found = v.found;
  empty = v.empty;
  about = v.about;
}

abbrev pub released_by : ℕ → SeatView → SeatView
released_by i v = record {
  roles = v.roles;
  held = without i v.held;
  out = [];
  claimed = v.claimed;
  sent = v.sent;
  received = v.received;
  ends = v.ends;
  ended = v.ended;
  found = v.found;
  empty = v.empty;
  about = v.about;
}

-- END was put into ring w
abbrev pub closed_by : ℕ → SeatView → SeatView
closed_by w v = record {
  roles = v.roles;
  held = v.held;
  out = v.out;
  claimed = v.claimed;
  sent = v.sent;
  received = v.received;
  ends = slice_set v.ends w true;
  ended = v.ended;
  found = v.found;
  empty = v.empty;
  about = v.about;
}

abbrev pub Takes : Step Stored → Me Stored SeatView → ℕ → Me Stored SeatView → Type 0
Takes st m n m' = m' ≡ (taken_by st.word m.0, (st.word, Empty) ∷ m.1)

abbrev pub Settles : Step Stored → Me Stored SeatView → ℕ → Me Stored SeatView → Type 0
Settles st m n m' = m' ≡ (settled_by m.0, rest m.1)

abbrev pub Releases : Step Stored → Me Stored SeatView → ℕ → Me Stored SeatView → Type 0
Releases st m n m' = (n ≡ 0) × (m' ≡ (released_by st.word m.0, rest m.1))

abbrev pub Closes : Step Stored → Me Stored SeatView → ℕ → Me Stored SeatView → Type 0
Closes st m n m' = (n ≡ 0) × (m' ≡ (closed_by (ring_in st.slots st.word) m.0, m.1))

-- a Play cannot read the key: the view tells it
abbrev pub Claiming : Step Stored → Me Stored SeatView → ℕ → Me Stored SeatView → Type 0
Claiming st m n m' = (z : LaneKey) → m.0.about ≡ Some z → Claims z st.word m.0 m.1 n m'

abbrev pub Receiving : Step Stored → Me Stored SeatView → ℕ → Me Stored SeatView → Type 0
Receiving st m n m' = (z : LaneKey) → m.0.about ≡ Some z → Received z (ring_in st.slots st.word) m.0 m.1 n m'
