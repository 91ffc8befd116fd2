use Rattle.std.proofs.Common.{◌≡◌, ℕ, ◌<◌, ◌≤◌, true, cond, List, [], ◌∷◌, ◌++◌, get_or-set_same, arith, sym, ap, ◌∙◌, subst}
use Rattle.std.specs.Result.{is_ok}
use Rattle.lane_spec.specs.Counts.{times}
use Rattle.lane_spec.specs.Pairs.{AreBelow}
use Rattle.lane_core.specs.declared.kit.Got.{Got}
use Rattle.lane_core.specs.Got.{IfPacket}
use Rattle.lane_core.specs.Seats.{IsRecord, log_of}
use Rattle.lane_core.proofs.Views.{times_last_else}
use Rattle.lane_table.specs.Rule.{Below}
use Rattle.lane_table.specs.Steps.{received_by, settled_by}
use Rattle.lane_table.proofs.Gots.{if_packet}
use Rattle.lane_table.proofs.Order.{are_below}
use Rattle.lane_table.proofs.lane.TableLane.receive.Goals as goal

pub invariant_of-seat-clause-log : goal.invariant_of-seat-clause-log
invariant_of-seat-clause-log c = let s = c.args.seat.now in let old = s.seat.me.0 in let new = c.take_entry-got.new.seat in let p = c.in-Packet.p in
    let v = subst (λ (r : Got). IfPacket r (λ p. new.me ≡ (settled_by (received_by s.place (p.slot, p.a) old), []))) c.in-Packet.is c.take_entry-got.ensures.received in
    c.add.ensures.pairs ∙ (λ j. s.log j ++ (c.slot.ensures j, (ap (λ (k : ℕ × ℕ). k.0) c.key-number.ensures) j) ∷ [])
    ∙ sym (ap (λ m. log_of m.0.received s.place) v ∙ get_or-set_same old.received s.place (log_of old.received s.place ++ (p.slot, p.a) ∷ []) [] s.long.0)

pub invariant_of-seat-clause-list : goal.invariant_of-seat-clause-list
invariant_of-seat-clause-list c = let s = c.args.seat.now in let old = s.seat.me.0 in let new = c.take_entry-got.new.seat in let p = c.in-Packet.p in
    let v = subst (λ (r : Got). IfPacket r (λ p. new.me ≡ (settled_by (received_by s.place (p.slot, p.a) old), []))) c.in-Packet.is c.take_entry-got.ensures.received in
    let xs : List ℕ = s.held.items in let slot : ℕ = c.slot-in-Packet.result in let ok : true ≡ is_ok c.push-pushed.result = c.if-prove.ensures.value in
    c.push-pushed.ensures.items ∙ ap (λ b. cond b (xs ++ slot ∷ []) xs) (sym ok) ∙ (λ j. s.list j ++ c.slot-in-Packet.ensures j ∷ []) ∙ sym (ap (λ m. m.0.held) v)

pub invariant_of-seat-clause-below : goal.invariant_of-seat-clause-below
invariant_of-seat-clause-below c = let s = c.args.seat.now in let old = s.seat.me.0 in let new = c.take_entry-got.new.seat in let p = c.in-Packet.p in let l = c.args.self.now in
    let v = subst (λ (r : Got). IfPacket r (λ p. new.me ≡ (settled_by (received_by s.place (p.slot, p.a) old), []))) c.in-Packet.is c.take_entry-got.ensures.received in
    let f = subst (λ (r : Got). IfPacket r (λ p. (p.room ≡ l.bytes) × IsRecord l.table.shared.key.capture.value p.a p × Below p.a (log_of old.received s.place) × (p.slot < l.buffers))) c.in-Packet.is c.take_entry-got.ensures.packet in
    let t = ap (λ t. t.slots) c.take_entry-got.ensures.same.0 in let w = ap (λ t. t.slots) c.requires.own.table in let n = l.sized.1 in let lt = f.3 in
    λ j le. ap (λ m. times j m.0.held) v ∙ times_last_else p.slot j old.held (λ e. absurd (omega arith)) ∙ s.below j (omega arith)

pub returns-in-Packet-clause-packet : goal.returns-in-Packet-clause-packet
returns-in-Packet-clause-packet c = let s = c.args.seat.now in let l = c.args.self.now in let seen = log_of s.seat.me.0.received s.place in
    if_packet c.take_entry-got.result (λ p. (p.room ≡ l.bytes) × IsRecord l.table.shared.key.capture.value p.a p × Below p.a seen × (p.slot < l.buffers)) (λ p. (p.room ≡ l.bytes) × IsRecord l.table.shared.key.capture.value p.a p × AreBelow p.a s.received.pairs)
    (λ p h. (h.0, h.1, subst (AreBelow p.a) (sym s.log) (are_below p.a seen h.2))) c.take_entry-got.ensures.packet

pub returns-in-Packet-clause-slot : goal.returns-in-Packet-clause-slot
returns-in-Packet-clause-slot c = let s = c.args.seat.now in let l = c.args.self.now in let seen = log_of s.seat.me.0.received s.place in
    if_packet c.take_entry-got.result (λ p. (p.room ≡ l.bytes) × IsRecord l.table.shared.key.capture.value p.a p × Below p.a seen × (p.slot < l.buffers)) (λ p. (p.slot < l.buffers) × (l.buffers ≤ 1024))
    (λ p h. (h.3, l.small.1)) c.take_entry-got.ensures.packet
