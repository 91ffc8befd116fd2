-- The lane that a table shows.
use Rattle.std.specs.Prelude.{◌≡◌, ◌≢◌, ℕ, ◌+◌, ◌%◌, ◌<◌, ◌≤◌, length, Bool, false, ◌&&◌, nat_eq, nat_lt, List, [], ◌∷◌}
use Rattle.std.specs.Prelude.{◌++◌, if◌then◌else◌, slice_index, slice_set}
use mathlib.Core.Option.{some}
use lib.ListN.{get_elem?}
use Rattle.atomic_table.specs.Table.{State, Act, stepped}
use Rattle.lane_spec.specs.Counts.{total, times}
use Rattle.lane_spec.specs.Pairs.{Pair, slots_of}
use Rattle.lane_spec.specs.LaneMachine as machine
use Rattle.lane_spec.specs.LaneMachine.{LaneState, IsLawful}
use Rattle.lane_table.specs.declared.view.Stored.{Stored}
use Rattle.lane_table.specs.declared.view.LaneKey.{LaneKey}
use Rattle.lane_table.specs.declared.view.SeatView.{SeatView}
use Rattle.lane_table.specs.Rule.{spent, Lanes, base_of, mark_at, Below}
use Rattle.lane_table.specs.Steps.{claimed_by, missed_by, taken_by, settled_by, released_by, sent_by, closed_by}
use Rattle.lane_table.specs.Steps.{received_by, empty_by, ended_by}
use Rattle.lane_table.specs.Hands.{first_role, later_roles}
use Rattle.lane_table.specs.Joins.{joined}
use Rattle.lane_core.specs.Seats.{log_of}
use Rattle.lane_table.specs.Cells.{END, entry_word}

abbrev pub has_role : ℕ → SeatView → Bool
has_role r v = nat_lt 0 (times r v.roles)

-- what is read of the view that has a role
abbrev pub of_role : {A : Type 0} → ℕ → (SeatView → A) → A → List SeatView → A
of_role r f d [] = d
of_role r f d (v ∷ vs) = if has_role r v then f v else of_role r f d vs

abbrev pub shown_sent : List SeatView → ℕ → List Pair
shown_sent views w = of_role 0 (λ v. log_of v.sent w) [] views

abbrev pub shown_received : List SeatView → ℕ → List Pair
shown_received views w = of_role (w + 1) (λ v. log_of v.received w) [] views

abbrev pub held_by : List SeatView → ℕ → List ℕ
held_by views r = of_role r (λ v. v.held) [] views

-- free words are the pool, the pairs that were sent and not received the rings, and the seats' lists what they hold
abbrev pub shown_stands : LaneKey → List ℕ → List SeatView → machine.Place → ℕ → Bool
shown_stands z words views machine.Pool i = nat_eq (slice_index words i) 1 && nat_lt i z.buffers
shown_stands z words views machine.Ingest i = nat_lt 0 (times i (held_by views 0))
shown_stands z words views (machine.Ring w) i =
    nat_lt 0 (times i (slots_of (machine.rest_of (shown_sent views w) (shown_received views w))))
shown_stands z words views (machine.Worker w) i = nat_lt 0 (times i (held_by views (w + 1)))

abbrev pub shown : LaneKey → State Stored SeatView → LaneState
shown z s = record {
  stands = shown_stands z s.words s.views;
  sent = shown_sent s.views;
  received = shown_received s.views;
  end_put = λ w. of_role 0 (λ v. mark_at v.ends w) false s.views;
  end_taken = λ w. of_role (w + 1) (λ v. mark_at v.ended w) false s.views;
  claimed = λ i. nat_lt 0 (total (λ (v : SeatView). times i v.claimed) s.views);
}

-- a table that keeps the rule shows a lawful lane
abbrev pub RuleShowsLawful : Type 0
RuleShowsLawful = (z : LaneKey) (s : State Stored SeatView) → Lanes z s → IsLawful z.buffers z.workers (shown z s)

-- a claim that finds the word of a free buffer is that event
abbrev pub ClaimIsEvent : Type 0
ClaimIsEvent = (z : LaneKey) (s : State Stored SeatView) (id i : ℕ) (v : SeatView) (c : List (ℕ
    × Stored)) (a : Act Stored) → Lanes z s → get_elem? s.views id ≡ some v → 0 < times 0 v.roles
    → ((w : ℕ) → times (w + 1) v.roles ≡ 0) → i < z.buffers → slice_index s.words i ≡ 1
    → machine.Leads z.buffers z.workers (machine.Claim i) (shown z s) (shown z (stepped s i 0 id c (claimed_by i v) a))

-- a release of what worker w holds is that event
abbrev pub ReleaseIsEvent : Type 0
ReleaseIsEvent = (z : LaneKey) (s : State Stored SeatView) (id w i : ℕ) (v : SeatView) (c : List (ℕ
    × Stored)) (a : Act Stored) → Lanes z s → get_elem? s.views id ≡ some v → 0 < times (w + 1) v.roles
    → ((r : ℕ) → r ≢ w + 1 → times r v.roles ≡ 0)
    → i < z.buffers → 0 < times i v.held
    → machine.Leads z.buffers z.workers (machine.Release w i) (shown z s)
    (shown z (stepped s i 1 id c (released_by i v) a))

-- a put of a pair into ring w is the event Send; the word is any that is no buffer's
abbrev pub SendIsEvent : Type 0
SendIsEvent = (z : LaneKey) (s : State Stored SeatView) (id w i k cell n : ℕ) (v : SeatView) (c : List (ℕ
    × Stored)) (a : Act Stored) → Lanes z s → get_elem? s.views id ≡ some v → 0 < length v.found
    → 0 < times 0 v.roles → ((r : ℕ) → r ≢ 0 → times r v.roles ≡ 0)
    → w < z.workers → i < z.buffers → z.buffers ≤ cell → 0 < times i v.held → mark_at v.ends w ≡ false
    → ((y : ℕ) → Below k (log_of v.sent y))
    → machine.Leads z.buffers z.workers (machine.Send w i k) (shown z s)
    (shown z (stepped s cell n id c (sent_by w i k v) a))

-- END put into ring w is the event Finish
abbrev pub FinishIsEvent : Type 0
FinishIsEvent = (z : LaneKey) (s : State Stored SeatView) (id w cell n : ℕ) (v : SeatView) (c : List (ℕ
    × Stored)) (a : Act Stored) → Lanes z s → get_elem? s.views id ≡ some v → 0 < length v.found
    → 0 < times 0 v.roles
    → w < z.workers → z.buffers ≤ cell → mark_at v.ends w ≡ false
    → machine.Leads z.buffers z.workers (machine.Finish w) (shown z s)
    (shown z (stepped s cell n id c (closed_by w v) a))

-- a take of the next pair of ring w is the event Receive
abbrev pub ReceiveIsEvent : Type 0
ReceiveIsEvent = (z : LaneKey) (s : State Stored SeatView) (id w i k : ℕ) (v : SeatView) (c : List (ℕ
    × Stored)) (a : Act Stored) → Lanes z s → get_elem? s.views id ≡ some v → 0 < length v.found → w < z.workers
    → 0 < times (w + 1) v.roles → ((r : ℕ) → r ≢ w + 1 → times r v.roles ≡ 0)
    → length v.roles ≡ 1 → v.out ≡ [] → z.buffers ≤ 1024 → mark_at v.ended w ≡ false → i < 1024
    → slice_index s.words (base_of z.buffers w + length (log_of v.received w) % (z.buffers + 1)) ≡ entry_word (i, k)
    → machine.Leads z.buffers z.workers (machine.Receive w i k) (shown z s) (shown z (stepped s (base_of z.buffers w
    + length (log_of v.received w) % (z.buffers + 1)) 0 id c (received_by w (i, k) v) a))

-- the next cell of worker w's ring, which has received so much
abbrev pub next_cell : LaneKey → ℕ → SeatView → ℕ
next_cell z w v = base_of z.buffers w + length (log_of v.received w) % (z.buffers + 1)

-- a claim that finds the word of a buffer taken is the event ClaimMiss
abbrev pub ClaimMissIsEvent : Type 0
ClaimMissIsEvent = (z : LaneKey) (s : State Stored SeatView) (id i : ℕ) (v : SeatView) (c : List (ℕ
    × Stored)) (a : Act Stored) → Lanes z s → get_elem? s.views id ≡ some v → i < z.buffers
    → slice_index s.words i ≡ 0
    → machine.Leads z.buffers z.workers (machine.ClaimMiss i) (shown z s)
    (shown z (stepped s i 0 id c (missed_by i v) a))

-- a receive that finds its cell empty is the event ReceiveMiss
abbrev pub ReceiveMissIsEvent : Type 0
ReceiveMissIsEvent = (z : LaneKey) (s : State Stored SeatView) (id w : ℕ) (v : SeatView) (c : List (ℕ
    × Stored)) (a : Act Stored) → Lanes z s → get_elem? s.views id ≡ some v → 0 < length v.found → w < z.workers
    → 0 < times (w + 1) v.roles → length v.roles ≡ 1
    → v.out ≡ [] → z.buffers ≤ 1024 → mark_at v.ended w ≡ false → slice_index s.words (next_cell z w v) ≡ 0
    → machine.Leads z.buffers z.workers (machine.ReceiveMiss w) (shown z s)
    (shown z (stepped s (next_cell z w v) 0 id c (empty_by w v) a))

-- a receive that finds END is the event TakeEnd
abbrev pub TakeEndIsEvent : Type 0
TakeEndIsEvent = (z : LaneKey) (s : State Stored SeatView) (id w : ℕ) (v : SeatView) (c : List (ℕ
    × Stored)) (a : Act Stored) → Lanes z s → get_elem? s.views id ≡ some v → 0 < length v.found → w < z.workers
    → 0 < times (w + 1) v.roles → length v.roles ≡ 1
    → v.out ≡ [] → z.buffers ≤ 1024 → mark_at v.ended w ≡ false → slice_index s.words (next_cell z w v) ≡ END
    → machine.Leads z.buffers z.workers (machine.TakeEnd w) (shown z s)
    (shown z (stepped s (next_cell z w v) 0 id c (ended_by w v) a))

-- a slot that is taken out of the table or put back changes nothing of the lane that is shown
abbrev pub SlotsAreUnseen : Type 0
SlotsAreUnseen = (z : LaneKey) (s : State Stored SeatView) (id i : ℕ) (v : SeatView) (c : List (ℕ
    × Stored)) (a : Act Stored) → get_elem? s.views id ≡ some v
    → (shown z (stepped s i (slice_index s.words i) id c (taken_by i v) a) ≡ shown z s)
    × (shown z (stepped s i (slice_index s.words i) id c (settled_by v) a) ≡ shown z s)

-- nor does a role that goes to a new seat
abbrev pub SplitIsUnseen : Type 0
SplitIsUnseen = (z : LaneKey) (s : State Stored SeatView) (id : ℕ) (v : SeatView) → Lanes z s
    → get_elem? s.views id ≡ some v → v.held ≡ [] → v.claimed ≡ []
    → shown z record {
      words = s.words;
      homes = s.homes;
      views = slice_set s.views id (later_roles v) ++ first_role v ∷ [];
    } ≡ shown z s

-- nor do roles that come to the ingest's seat
abbrev pub JoinIsUnseen : Type 0
JoinIsUnseen = (z : LaneKey) (s : State Stored SeatView) (id other : ℕ) (v w : SeatView) → Lanes z s
    → get_elem? s.views id ≡ some v → other ≢ id → get_elem? s.views other ≡ some w → 0 < length v.found
    → 0 < times 0 v.roles → v.held ≡ [] → w.held ≡ []
    → shown z record {
      words = s.words;
      homes = s.homes;
      views = slice_set (slice_set s.views id (joined v w)) other spent;
    } ≡ shown z s
