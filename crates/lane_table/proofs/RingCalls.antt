-- The take of an entry as a call asks for it, and what it told.
use Rattle.std.proofs.Common.{◌≡◌, ℕ, ◌+◌, ◌%◌, ◌<◌, ◌≤◌, false, List, [], ◌∷◌, length, get_or, sym, ap, ◌∙◌, subst, arith, mod-lt, Some}
use Rattle.std.specs.Prelude.{slice_index}
use mathlib.Core.Option.{none}
use Rattle.atomic_table.specs.Table.{Me, step, Allows, carried_after}
use Rattle.packet_owner.specs.Packet.{PacketModel as Packet}
use Rattle.brick_spec.specs.Item.{Item}
use Rattle.lane_spec.specs.Counts.{times}
use Rattle.lane_core.specs.Seats.{IsRecord, log_of}
use Rattle.lane_table.specs.declared.view.Stored.{Stored}
use Rattle.lane_table.specs.declared.view.Stored.TheVariants.{Filled}
use Rattle.lane_table.specs.declared.view.LaneKey.{LaneKey}
use Rattle.lane_table.specs.declared.view.SeatView.{SeatView}
use Rattle.lane_table.specs.Rule.{Lanes, base_of, mark_at, Below}
use Rattle.lane_table.specs.Steps.{Received, Receiving, GotNext, received_by, ring_in, slot_in}
use Rattle.lane_table.proofs.Receive.{receives}
use Rattle.lane_table.proofs.Decodes.{ring_is, slot_is}
use Rattle.lane_table.proofs.WordCalls.{same_key}

abbrev M : Type 0
M = Me Stored SeatView

module _ (z : LaneKey) (slots id w cell : ℕ) (me : M) (is : slots ≡ z.buffers) (at : cell ≡ base_of z.buffers w + length (log_of me.0.received w) % (z.buffers + 1)) (knows : 0 < length me.0.found) (is_worker : w < z.workers)
    (role : 0 < times (w + 1) me.0.roles) (one_role : length me.0.roles ≡ 1) (free_hand : me.0.out ≡ []) (going : mark_at me.0.ended w ≡ false) (small : z.buffers ≤ 1024) (about : me.0.about ≡ Some z) where
  pub receive_call : Allows (Lanes z) slots id me cell (λ _. 0) (Receiving (step slots cell 0 0 none) me)
  receive_call = let place : ℕ = length (log_of me.0.received w) % (z.buffers + 1) in let near : place < z.buffers + 1 = mod-lt (length (log_of me.0.received w)) (omega arith) in
      let F : ℕ × ℕ → Type 0 = λ y. Allows (Lanes z) y.0 id me y.1 (λ _. 0) (Receiving (step y.0 y.1 0 0 none) me) in
      subst F (λ j. (sym is j, sym at j)) (λ s h len seen fits. let r = receives z id w me.0 me.1 knows is_worker role one_role free_hand going small s h len seen fits in (
        r.0,
        r.1,
        r.2,
        r.3,
        λ z' about'. let ring = ring_is z.buffers w place near in let key = same_key z z' (sym about ∙ about') in
            subst (λ (y : LaneKey × ℕ). Received y.0 y.1 me.0 me.1 (get_or s.words (base_of z.buffers w + place) 0) (r.0, carried_after me.1 r.1)) (λ j. (key j, sym ring j)) r.4,
      ))

-- what the step told, of ring w
pub told : (z : LaneKey) (slots w cell count n : ℕ) (me m' : M) → cell ≡ base_of slots w + count % (slots + 1) → me.0.about ≡ Some z → Receiving (step slots cell 0 0 none) me n m' → Received z w me.0 me.1 n m'
told z slots w cell count n me m' at about r = subst (λ (y : ℕ). Received z y me.0 me.1 n m') (ap (ring_in slots) at ∙ ring_is slots w (count % (slots + 1)) (mod-lt count (omega arith))) (r z about)

-- the packet that came, by its own slot and number
pub record IsNext (z : LaneKey) (w : ℕ) (v : SeatView) (c : List (ℕ × Stored)) (n : ℕ) (m' : M) (p : Packet) : Type 0 where
  pub slot : slot_in n ≡ p.slot
  pub inside : p.slot < z.buffers
  pub room : p.room ≡ z.bytes
  pub entry : IsRecord z.capture.value p.a p
  pub above : Below p.a (log_of v.received w)
  pub left : length (log_of v.received w) < slice_index z.shares.value.items w
  pub fewer : length v.held < z.buffers
  pub alone : times p.slot v.held ≡ 0
  pub seat : m' ≡ (received_by w (p.slot, p.a) v, (p.slot, Filled p) ∷ c)

pub is_next : (z : LaneKey) (w : ℕ) (v : SeatView) (c : List (ℕ × Stored)) (n : ℕ) (m' : M) → z.buffers ≤ 1024 → (g : GotNext z w v c n m') → IsNext z w v c n m' g.packet
is_next z w v c n m' small g = let s = g.slot in let a : g.packet.a ≡ g.pair.1 = ap (λ (i : Item). i.a) g.entry.2 in let b = g.inside in record {
  slot = ap slot_in g.word ∙ slot_is g.pair.0 g.pair.1 (omega arith) ∙ sym s;
  inside = omega arith;
  room = g.room;
  entry = subst (λ (k : ℕ). IsRecord z.capture.value k g.packet) (sym a) g.entry;
  above = subst (λ (k : ℕ). Below k (log_of v.received w)) (sym a) g.above;
  left = g.left;
  fewer = g.fewer;
  alone = ap (λ i. times i v.held) s ∙ g.alone;
  seat = g.seat ∙ (λ j. (received_by w (sym s j, sym a j) v, (sym s j, Filled g.packet) ∷ c));
}

pub same_packet : (a b : Packet) → Filled a ≡ Filled b → a ≡ b
same_packet a b e = cc
