use Rattle.std.proofs.Common.{◌≡◌, ℕ, ◌<◌, List, [], ◌∷◌, ◌++◌, length, ap, sym, ◌∙◌, subst, arith, refl}
use Rattle.std.proofs.lemmas.Option.{slice_get_read, slice_get_within}
use Rattle.crossbeam_queue.specs.Passes.{view}
use Rattle.lane_spec.specs.Counts.{times}
use Rattle.lane_spec.specs.Pairs.{Pair, slots_of}
use Rattle.lane_core.proofs.Counting.{times_append}
use Rattle.lane_core.proofs.Moves.{slots_more}
use Rattle.lane_queue.specs.declared.ring_rule.Item.{Item}
use Rattle.lane_queue.specs.RingRule.{Gets}
use Rattle.lane_queue.specs.Seats.{lane_of, IsGetter}
use Rattle.lane_queue.proofs.Sums.{below_last}
use Rattle.lane_queue.proofs.Sends.{may_get, getter_stays, getter_got, getter_ends, is_got}
use Rattle.lane_queue.proofs.kit.QueueKitLaneKit.receive.Goals as goal

pub pop-requires-clause-pass : goal.pop-requires-clause-pass
pop-requires-clause-pass g c = let l = c.args.lane.now in let o = c.requires.own in
    (o.getter c.index-ring.result.now (slice_get_read _ _ c.args.seat.now.place _ refl (let a = o.place in let b = l.count in omega arith) c.index-ring.ensures)).pass

pub pop-requires-clause-may : goal.pop-requires-clause-may
pop-requires-clause-may g c = let l = c.args.lane.now in let s = c.args.seat.now in let o = c.requires.own in
    may_get (lane_of l) s.place c.index-ring.result.now s.ring s.received.pairs s.ended
    (o.getter c.index-ring.result.now (slice_get_read _ _ s.place _ refl (let a = o.place in let b = l.count in omega arith) c.index-ring.ensures)) c.requires.not_ended

pub overflow_cast-number : goal.overflow_cast-number
overflow_cast-number g c = let l = c.args.lane.now in let s = c.args.seat.now in let o = c.requires.own in let p = c.in-Some-Packet.p in
    let getter = o.getter c.index-ring.result.now (slice_get_read _ _ s.place _ refl (let a = o.place in let b = l.count in omega arith) c.index-ring.ensures) in
    let f = is_got (lane_of l) s.place c.index-ring.result.now s.ring s.received.pairs s.ended p (view c.pop.new.pass) getter (subst (λ (x : Item). Gets (view s.ring) x (view c.pop.new.pass)) c.in-Some-Packet.field-0-is c.in-Some-Packet.ensures.got) in
    let k : p.a < length l.key.shared.key.value.entries = slice_get_within l.key.shared.key.value.entries p.a f.of_capture.0 f.of_capture.1 in let e = l.entries in let n = ap (λ (p : ℕ × ℕ). p.0) c.key-number.ensures in omega arith

pub add-requires : goal.add-requires
add-requires g c = let l = c.args.lane.now in let s = c.args.seat.now in let o = c.requires.own in let p = c.in-Some-Packet.p in
    let getter = o.getter c.index-ring.result.now (slice_get_read _ _ s.place _ refl (let a = o.place in let b = l.count in omega arith) c.index-ring.ensures) in
    let f = is_got (lane_of l) s.place c.index-ring.result.now s.ring s.received.pairs s.ended p (view c.pop.new.pass) getter (subst (λ (x : Item). Gets (view s.ring) x (view c.pop.new.pass)) c.in-Some-Packet.field-0-is c.in-Some-Packet.ensures.got) in
    let a = f.share in let b = o.room in omega arith

pub invariant_of-seat-clause-slots : goal.invariant_of-seat-clause-slots
invariant_of-seat-clause-slots g c = λ i. let s = c.args.seat.now in let p = c.in-Some-Packet.p in let n = ap (λ (p : ℕ × ℕ). p.0) c.key-number.ensures in
    let more : c.add.new.self.pairs ≡ s.received.pairs ++ (p.slot, p.a) ∷ [] = c.add.ensures.pairs ∙ (λ j. s.received.pairs ++ (c.slot.ensures j, n j) ∷ []) in
    let items : c.add_slot.new.list.items ≡ s.held.items ++ p.slot ∷ [] = c.add_slot.ensures.items ∙ (λ j. s.held.items ++ c.slot-in-Some-Packet.ensures j ∷ []) in
    let a = ap (λ (m : List Pair). times i (slots_of m)) more in let b = slots_more i s.received.pairs p.slot p.a in let d = ap (times i) items in let e = times_append i s.held.items (p.slot ∷ []) in let q = s.slots i in omega arith

pub returns-in-Some-Packet-clause-own : goal.returns-in-Some-Packet-clause-own
returns-in-Some-Packet-clause-own g c = let l = c.args.lane.now in let s = c.args.seat.now in let o = c.requires.own in let p = c.in-Some-Packet.p in let n = ap (λ (p : ℕ × ℕ). p.0) c.key-number.ensures in
    let getter = o.getter c.index-ring.result.now (slice_get_read _ _ s.place _ refl (let a = o.place in let b = l.count in omega arith) c.index-ring.ensures) in
    let got = subst (λ (x : Item). Gets (view s.ring) x (view c.pop.new.pass)) c.in-Some-Packet.field-0-is c.in-Some-Packet.ensures.got in
    let f = is_got (lane_of l) s.place c.index-ring.result.now s.ring s.received.pairs s.ended p (view c.pop.new.pass) getter got in
    let more : c.add.new.self.pairs ≡ s.received.pairs ++ (p.slot, p.a) ∷ [] = c.add.ensures.pairs ∙ (λ j. s.received.pairs ++ (c.slot.ensures j, n j) ∷ []) in
    let items : c.add_slot.new.list.items ≡ s.held.items ++ p.slot ∷ [] = c.add_slot.ensures.items ∙ (λ j. s.held.items ++ c.slot-in-Some-Packet.ensures j ∷ []) in record {
      pool = o.pool;
      size = o.size;
      below = λ k le. ap (times k) items ∙ below_last p.slot l.buffers s.held.items f.slot o.below k le;
      place = o.place;
      room = let a = o.room in let b = c.add.ensures.room in omega arith;
      getter = λ q at. subst (λ (log : List Pair). IsGetter (lane_of l) s.place log s.ended q c.pop.new.pass) (sym more) (getter_got (lane_of l) s.place q s.ring s.received.pairs s.ended p c.pop.new.pass (o.getter q at) c.in-Some-Packet.ensures.same got);
    }

pub returns-in-Some-Packet-clause-packet : goal.returns-in-Some-Packet-clause-packet
returns-in-Some-Packet-clause-packet g c = let l = c.args.lane.now in let s = c.args.seat.now in let o = c.requires.own in let p = c.in-Some-Packet.p in
    let getter = o.getter c.index-ring.result.now (slice_get_read _ _ s.place _ refl (let a = o.place in let b = l.count in omega arith) c.index-ring.ensures) in
    let f = is_got (lane_of l) s.place c.index-ring.result.now s.ring s.received.pairs s.ended p (view c.pop.new.pass) getter (subst (λ (x : Item). Gets (view s.ring) x (view c.pop.new.pass)) c.in-Some-Packet.field-0-is c.in-Some-Packet.ensures.got) in
    (f.room, f.of_capture, f.above)

pub returns-in-Some-Packet-clause-slot : goal.returns-in-Some-Packet-clause-slot
returns-in-Some-Packet-clause-slot g c = let l = c.args.lane.now in let s = c.args.seat.now in let o = c.requires.own in let p = c.in-Some-Packet.p in
    let getter = o.getter c.index-ring.result.now (slice_get_read _ _ s.place _ refl (let a = o.place in let b = l.count in omega arith) c.index-ring.ensures) in
    let f = is_got (lane_of l) s.place c.index-ring.result.now s.ring s.received.pairs s.ended p (view c.pop.new.pass) getter (subst (λ (x : Item). Gets (view s.ring) x (view c.pop.new.pass)) c.in-Some-Packet.field-0-is c.in-Some-Packet.ensures.got) in
    (f.slot, l.small.1)

pub returns-in-Some-End-clause-own : goal.returns-in-Some-End-clause-own
returns-in-Some-End-clause-own g c = let l = c.args.lane.now in let s = c.args.seat.now in let o = c.requires.own in
    let got = subst (λ (x : Item). Gets (view s.ring) x (view c.pop.new.pass)) c.in-Some-End.field-0-is c.in-Some-End.ensures.got in record {
      pool = o.pool;
      size = o.size;
      below = o.below;
      place = o.place;
      room = o.room;
      getter = λ q at. getter_ends (lane_of l) s.place q s.ring s.received.pairs s.ended c.pop.new.pass (o.getter q at) c.in-Some-End.ensures.same got;
    }

pub returns-in-None-clause-own : goal.returns-in-None-clause-own
returns-in-None-clause-own g c = let l = c.args.lane.now in let s = c.args.seat.now in let o = c.requires.own in record {
  pool = o.pool;
  size = o.size;
  below = o.below;
  place = o.place;
  room = o.room;
  getter = λ q at. getter_stays (lane_of l) s.place q s.ring s.received.pairs s.ended c.pop.new.pass (o.getter q at) c.in-None.ensures.same c.in-None.ensures.got;
}
