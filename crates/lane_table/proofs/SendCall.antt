-- The send as a call asks for it.
use Rattle.std.specs.Prelude.{slice_index}
use Rattle.std.proofs.Common.{◌≡◌, ℕ, ◌+◌, ◌%◌, ◌<◌, false, List, [], ◌∷◌, length, sym, refl, ap, ◌∙◌, subst, arith, mod-lt}
use mathlib.Core.Option.{none}
use Rattle.atomic_table.specs.Table.{Me, step, Allows}
use Rattle.packet_owner.specs.Packet.{PacketModel as Packet}
use Rattle.lane_spec.specs.Counts.{times}
use Rattle.lane_core.specs.Seats.{IsRecord, log_of}
use Rattle.lane_table.specs.declared.view.Stored.{Stored}
use Rattle.lane_table.specs.declared.view.Stored.TheVariants.{Filled}
use Rattle.lane_table.specs.declared.view.LaneKey.{LaneKey}
use Rattle.lane_table.specs.declared.view.SeatView.{SeatView}
use Rattle.lane_table.specs.Cells.{entry_word}
use Rattle.lane_table.specs.Rule.{Lanes, base_of, mark_at, Below}
use Rattle.lane_table.specs.Steps.{Sends, sent_by, ring_in, slot_in, number_in}
use Rattle.lane_table.proofs.Send.{sends}
use Rattle.lane_table.proofs.Decodes.{ring_is, slot_is, number_is}

abbrev pub M : Type 0
M = Me Stored SeatView

-- what the step's word and operand say is what was meant
pub decoded : (n w i k cell entry c : ℕ) (v : SeatView) → cell ≡ base_of n w + c → c < n + 1 → entry ≡ entry_word (i, k) → i < 2048 → sent_by (ring_in n cell) (slot_in entry) (number_in entry) v ≡ sent_by w i k v
decoded n w i k cell entry c v at lt is small = let r = ap (ring_in n) at ∙ ring_is n w c lt in let s = ap slot_in is ∙ slot_is i k small in let m = ap number_in is ∙ number_is i k small in
    λ j. sent_by (r j) (s j) (m j) v

module _ (z : LaneKey) (slots id w i k cell entry : ℕ) (me : M) (x : Packet) (c : List (ℕ × Stored)) (is : slots ≡ z.buffers) (at : cell ≡ base_of z.buffers w + length (log_of me.0.sent w) % (z.buffers + 1))
    (word : entry ≡ entry_word (i, k)) (out_is : me.1 ≡ (i, Filled x) ∷ c) (knows : 0 < length me.0.found) (is_worker : w < z.workers) (below : i < z.buffers) (small : i < 2048) (is_ingest : 0 < times 0 me.0.roles) (out : me.0.out ≡ i ∷ [])
    (slot : x.slot ≡ i) (room : x.room ≡ z.bytes) (is_entry : IsRecord z.capture.value k x) (above : (y : ℕ) → Below k (log_of me.0.sent y)) (going : mark_at me.0.ends w ≡ false) (left : length (log_of me.0.sent w) < slice_index z.shares.value.items w) where
  pub send_call : Allows (Lanes z) slots id me cell (λ _. entry) (Sends (step slots cell entry 0 none) me)
  send_call = let place : ℕ = length (log_of me.0.sent w) % (z.buffers + 1) in let near : place < z.buffers + 1 = mod-lt (length (log_of me.0.sent w)) (omega arith) in
      let F : ℕ × ℕ × ℕ × List (ℕ × Stored) → Type 0 = λ y. Allows (Lanes z) y.0 id (me.0, y.3) y.1 (λ _. y.2) (Sends (step y.0 y.1 y.2 0 none) (me.0, y.3)) in
      subst F (λ j. (sym is j, sym at j, sym word j, sym out_is j)) (λ s h len seen fits. let r = sends z id w i k me.0 x c knows is_worker below is_ingest out slot room is_entry above going left s h len seen fits in
      (r.0, r.1, r.2, r.3, record { free = r.4.0; seat = r.4.1 ∙ (let d = decoded z.buffers w i k (base_of z.buffers w + place) (entry_word (i, k)) place me.0 refl near refl small in λ j. (sym d j, c)) }))
