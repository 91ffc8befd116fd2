-- The rule of a ring on a queue: what was got is a prefix of what was sent, and END stands behind it.
use Rattle.std.specs.Prelude.{◌≡◌, ◌⊎◌, ℕ, ◌<◌, ◌≤◌, Bool, true, false, List, [], ◌∷◌, ◌++◌, map, length, Option, Some}
use Rattle.std.specs.Prelude.{None}
use mathlib.Core.Option.{some}
use lib.ListN.{get_elem?}
use Rattle.packet_owner.specs.Packet.{PacketModel}
use Rattle.lane_spec.specs.Pairs.{Pair, AreBelow, AreRising}
use Rattle.lane_core.specs.Seats.{IsRecord}
use Rattle.lane_queue.specs.declared.ring_rule.RingAbout.{RingAbout}
use Rattle.lane_queue.specs.declared.ring_rule.Item.{Item}
use Rattle.lane_queue.specs.declared.ring_rule.Item.TheVariants.{Packet, End}
use Rattle.lane_queue.specs.declared.ring_rule.RingView.{RingView}

-- VIEWS

abbrev pub ring_view : Bool → Bool → List Pair → List Pair → Bool → Bool → Option RingAbout → RingView
ring_view sends gets sent got put taken about = record {
  sends = sends;
  gets = gets;
  sent = sent;
  got = got;
  put = put;
  taken = taken;
  about = about;
}

-- before its worker has a pass
abbrev pub first_view : RingView
first_view = ring_view true true [] [] false false None

-- the view that a join leaves
abbrev pub spent : RingView
spent = ring_view false false [] [] false false None

-- the views of the one that sends and of the one that gets
abbrev pub sender_view : List Pair → Bool → RingAbout → RingView
sender_view sent put a = ring_view true false sent [] put false (Some a)

abbrev pub getter_view : List Pair → Bool → RingAbout → RingView
getter_view got taken a = ring_view false true [] got false taken (Some a)

-- the two views of the split, and the one of the join
abbrev pub first_sender : Option RingAbout → RingView
first_sender about = ring_view true false [] [] false false about

abbrev pub first_getter : Option RingAbout → RingView
first_getter about = ring_view false true [] [] false false about

abbrev pub both_halves : RingView → RingView → RingView
both_halves v w = ring_view true true v.sent w.got v.put w.taken v.about

-- THE RULE

abbrev pub pair_of : PacketModel → Pair
pair_of p = (p.slot, p.a)

-- the packet has the lane's room, a slot of the lane, and the data of the capture's record of its number
pub record FitsRing (a : RingAbout) (p : PacketModel) : Type 0 where
  pub room : p.room ≡ a.bytes
  pub slot : p.slot < a.buffers
  pub of_capture : IsRecord a.capture.value p.a p

abbrev pub AllFit : RingAbout → List PacketModel → Type 0
AllFit a [] = Unit {0}
AllFit a (p ∷ ps) = FitsRing a p × AllFit a ps

-- END stands last, where it was put and not taken
abbrev pub tail_of : Bool → Bool → List Item
tail_of true false = End ∷ []
tail_of true true = []
tail_of false _ = []

-- one pass at most sends, and it has what was sent; one at most gets, and it has what was got
pub record Stands (sender getter : ℕ) (sent got : List Pair) (put taken : Bool) (about : RingAbout) (id : ℕ)
    (v : RingView) : Type 0 where
  pub sends : v.sends ≡ true → (id ≡ sender) × (v.sent ≡ sent) × (v.put ≡ put) × (v.about ≡ Some about)
  pub gets : v.gets ≡ true → (id ≡ getter) × (v.got ≡ got) × (v.taken ≡ taken) × (v.about ≡ Some about)

pub record OpenRing (items : List Item) (views : List RingView) : Type 0 where
  pub about : RingAbout
  pub sender : ℕ
  pub getter : ℕ
  pub sent : List Pair
  pub got : List Pair
  pub put : Bool
  pub taken : Bool
  pub packets : List PacketModel
  -- nothing stands after END
  pub items_are : items ≡ map Packet packets ++ tail_of put taken
  -- what was got is a prefix of what was sent
  pub order : sent ≡ got ++ map pair_of packets
  -- the numbers rise
  pub rising : AreRising sent
  -- no more was sent than the ring's share
  pub share : length sent ≤ about.share
  pub fit : AllFit about packets
  pub done : taken ≡ true → (put ≡ true) × (packets ≡ [])
  pub stands : (id : ℕ) (v : RingView) → get_elem? views id ≡ some v
      → Stands sender getter sent got put taken about id v

-- before the ring is shared one pass has both roles, and nothing lies there
abbrev pub NewRing : List Item → List RingView → Type 0
NewRing items views = (items ≡ []) × (views ≡ first_view ∷ [])

abbrev pub Ring : List Item → List RingView → Type 0
Ring items views = NewRing items views ⊎ OpenRing items views

-- STEPS

-- what a pass that sends may put
pub record MayPut (v : RingView) (p : PacketModel) : Type 0 where
  pub sends : v.sends ≡ true
  pub going : v.put ≡ false
  pub about : RingAbout
  pub knows : v.about ≡ Some about
  pub fits : FitsRing about p
  pub above : AreBelow p.a v.sent
  pub share : length v.sent < about.share

abbrev pub MaySend : RingView → Item → Type 0
MaySend v (Packet p) = MayPut v p
MaySend v End = (a : RingAbout) × (v.about ≡ Some a) × (v.sends ≡ true) × (v.put ≡ false)

abbrev pub Sends : RingView → Item → RingView → Type 0
Sends v (Packet p) w = w ≡ ring_view v.sends v.gets (v.sent ++ pair_of p ∷ []) v.got v.put v.taken v.about
Sends v End w = w ≡ ring_view v.sends v.gets v.sent v.got true v.taken v.about

-- a pass that may get something
abbrev pub MayGet : RingView → Type 0
MayGet v = (a : RingAbout) × (v.about ≡ Some a) × (v.gets ≡ true) × (v.taken ≡ false)

pub record GetsPacket (v : RingView) (p : PacketModel) (w : RingView) : Type 0 where
  pub view : w ≡ ring_view v.sends v.gets v.sent (v.got ++ pair_of p ∷ []) v.put v.taken v.about
  pub above : AreBelow p.a v.got
  pub about : RingAbout
  pub knows : v.about ≡ Some about
  pub fits : FitsRing about p
  pub share : length v.got < about.share

abbrev pub Gets : RingView → Item → RingView → Type 0
Gets v (Packet p) w = GetsPacket v p w
Gets v End w = w ≡ ring_view v.sends v.gets v.sent v.got v.put true v.about

-- LESSONS

-- what the pass with both roles learns: where END was taken, all that was sent was got
abbrev pub IsDone : RingView → List Item → Type 0
IsDone v items = v.taken ≡ true → v.sent ≡ v.got
