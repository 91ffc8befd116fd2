-- The rule of a lane's table.
-- The words are the free words, one for each buffer, and then for each ring its cells, one more than there are buffers.
use Rattle.std.specs.Prelude.{◌≡◌, ◌≢◌, ◌⊎◌, ℕ, zero, suc, ◌+◌, ◌*◌, ◌<◌, ◌≤◌, Bool, true, false, List, [], ◌∷◌, ◌++◌}
use Rattle.std.specs.Prelude.{drop, length, slice_index, slice_index_or, replicate, Some, None}
use mathlib.Core.Option.{Option as Maybe, some}
use lib.ListN.{get_elem?}
use Rattle.atomic_table.specs.Table.{State}
use Rattle.packet_owner.specs.Buffer.{BufferModel as Buffer}
use Rattle.packet_owner.specs.Packet.{PacketModel as Packet}
use Rattle.lane_spec.specs.Counts.{total, times, one_if}
use Rattle.lane_core.specs.Seats.{IsRecord, log_of}
use Rattle.lane_spec.specs.Pairs.{Pair, slots_of}
use Rattle.lane_table.specs.declared.view.Stored.{Stored}
use Rattle.lane_table.specs.declared.view.Stored.TheVariants.{Empty, Free, Filled}
use Rattle.lane_table.specs.declared.view.LaneKey.{LaneKey}
use Rattle.lane_table.specs.declared.view.SeatView.{SeatView}
use Rattle.lane_table.specs.Cells.{Cells, entries_of}

abbrev pub numbers_from : ℕ → ℕ → List ℕ
numbers_from a zero = []
numbers_from a (suc n) = a ∷ numbers_from (a + 1) n

abbrev pub first_view : LaneKey → SeatView
first_view z = record {
  roles = numbers_from 1 z.workers ++ 0 ∷ [];
  held = [];
  out = [];
  claimed = [];
  sent = replicate z.workers [];
  received = replicate z.workers [];
  ends = replicate z.workers false;
  ended = replicate z.workers false;
  found = replicate z.buffers 0;
  empty = replicate z.workers 0;
  about = Some z;
}

-- the view that a join leaves
abbrev pub spent : SeatView
spent = record {
  roles = [];
  held = [];
  out = [];
  claimed = [];
  sent = [];
  received = [];
  ends = [];
  ended = [];
  found = [];
  empty = [];
  about = None;
}

-- where the cells of ring w begin
abbrev pub base_of : ℕ → ℕ → ℕ
base_of n w = n + w * (n + 1)

abbrev pub mark_at : List Bool → ℕ → Bool
mark_at marks w = slice_index_or marks w false

-- the pairs of ring w that were sent and not received
abbrev pub rest_at : List (List Pair) → List (List Pair) → ℕ → List Pair
rest_at sent received w = drop (length (log_of received w)) (log_of sent w)

-- how often i stands in the rings' rests
abbrev pub in_rings : List (List Pair) → List (List Pair) → ℕ → ℕ → ℕ
in_rings sent received i zero = 0
in_rings sent received i (suc w) = times i (slots_of (rest_at sent received w)) + in_rings sent received i w

abbrev pub in_held : ℕ → SeatView → ℕ
in_held i v = times i v.held

abbrev pub in_roles : ℕ → SeatView → ℕ
in_roles r v = times r v.roles

-- every number is below k; every number is above a; each number is below the later ones
abbrev pub Below : ℕ → List Pair → Type 0
Below k [] = Unit {0}
Below k (p ∷ ps) = (p.1 < k) × Below k ps

abbrev pub Above : ℕ → List Pair → Type 0
Above a [] = Unit {0}
Above a (p ∷ ps) = (a < p.1) × Above a ps

abbrev pub IsRising : List Pair → Type 0
IsRising [] = Unit {0}
IsRising (p ∷ ps) = Above p.1 ps × IsRising ps

-- a number of one ring is none of another's
abbrev pub AreApart : List (List Pair) → Type 0
AreApart sent = (w x i j : ℕ) (p q : Pair) → w ≢ x → get_elem? (log_of sent w) i ≡ some p
    → get_elem? (log_of sent x) j ≡ some q → p.1 ≢ q.1

-- what is known of one ring
pub record Ring (z : LaneKey) (words : List ℕ) (homes : List (Maybe Stored)) (sent received : List (List Pair))
    (ends ended : List Bool) (w : ℕ) : Type 0 where
  pub cells : Cells (z.buffers
      + 1) words (base_of z.buffers w) (entries_of (log_of sent w) (mark_at ends w)) (length (log_of received w)
      + one_if (mark_at ended w))
  pub prefix : (rest : List Pair) × (log_of received w ++ rest ≡ log_of sent w)
  pub rising : IsRising (log_of sent w)
  pub share : length (log_of sent w) ≤ slice_index z.shares.value.items w
  pub done : mark_at ended w ≡ true → (mark_at ends w ≡ true) × (log_of received w ≡ log_of sent w)
  -- the value of each pair that was sent and not received is at home: the packet of that slot and number
  pub packets : (t : ℕ) (p : Pair) → length (log_of received w) ≤ t → get_elem? (log_of sent w) t ≡ some p
      → (x : Packet) × (get_elem? homes p.0 ≡ some (some (Filled x))) × (x.slot ≡ p.0) × (x.room ≡ z.bytes)
      × IsRecord z.capture.value p.1 x

-- what a view says: of the words at home, and of the lists
pub record Stands (z : LaneKey) (homes : List (Maybe Stored)) (sent received : List (List Pair))
    (ends ended : List Bool) (v : SeatView) : Type 0 where
  pub about : v.about ≡ Some z
  pub counts : (length v.found ≡ z.buffers) × (length v.empty ≡ z.workers)
  pub long : (length v.received ≡ z.workers) × (length v.ended ≡ z.workers)
  pub out : (i : ℕ) → 0 < times i v.out → 0 < times i v.held
  -- only the ingest has claimed
  pub claims : 0 < length v.claimed → 0 < times 0 v.roles
  pub role : (i : ℕ) → 0 < times i v.held → length v.roles ≡ 1
  pub home : (i : ℕ) → 0 < times i v.held → times i v.out ≡ 0 → get_elem? homes i ≡ some (some Empty)
  pub ingest : 0 < times 0 v.roles → (v.sent ≡ sent) × (v.ends ≡ ends)
  pub worker : (w : ℕ) → 0 < times (w + 1) v.roles
      → (log_of v.received w ≡ log_of received w) × (mark_at v.ended w ≡ mark_at ended w)

pub record Lanes (z : LaneKey) (s : State Stored SeatView) : Type 0 where
  pub sent : List (List Pair)
  pub received : List (List Pair)
  pub ends : List Bool
  pub ended : List Bool
  pub words : length s.words ≡ z.buffers + z.workers * (z.buffers + 1)
  pub homes : length s.homes ≡ z.buffers
  pub lists : (length sent ≡ z.workers) × (length received ≡ z.workers) × (length ends ≡ z.workers)
      × (length ended ≡ z.workers)
  -- 1: each role is in exactly one view
  pub roles : (r : ℕ) → r < z.workers + 1 → total (in_roles r) s.views ≡ 1
  pub no_more_roles : (r : ℕ) → z.workers + 1 ≤ r → total (in_roles r) s.views ≡ 0
  -- 2: three terms
  pub once : (i : ℕ) → i < z.buffers
      → slice_index s.words i + in_rings sent received i z.workers + total (in_held i) s.views ≡ 1
  pub inside : (i : ℕ) → z.buffers ≤ i → in_rings sent received i z.workers + total (in_held i) s.views ≡ 0
  -- 3, 4 and 6, ring by ring
  pub rings : (w : ℕ) → w < z.workers → Ring z s.words s.homes sent received ends ended w
  pub apart : AreApart sent
  -- 5 and 6: a free buffer is at home
  pub free : (i : ℕ) → i < z.buffers → slice_index s.words i ≡ 1
      → (b : Buffer) × (get_elem? s.homes i ≡ some (some (Free b))) × (b.slot ≡ i) × (b.room ≡ z.bytes)
  -- 7: what is taken was claimed
  pub taken : (i : ℕ) → i < z.buffers → slice_index s.words i ≡ 0
      → 0 < total (λ (v : SeatView). times i v.claimed) s.views
  pub views : (id : ℕ) (v : SeatView) → get_elem? s.views id ≡ some v
      → (v ≡ spent) ⊎ Stands z s.homes sent received ends ended v
