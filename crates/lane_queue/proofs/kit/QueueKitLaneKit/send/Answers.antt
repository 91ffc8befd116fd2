use Rattle.std.proofs.Common.{◌≡◌, ℕ, ◌<◌, List, [], ◌∷◌, ◌++◌, length, set, ap, ◌∙◌, arith, refl}
use Rattle.std.proofs.lemmas.Option.{slice_get_read, slice_get_within}
use Rattle.std.proofs.lemmas.List.{length-map, length-set}
use Rattle.lane_spec.specs.Counts.{times, total}
use Rattle.lane_spec.specs.Pairs.{Pair}
use Rattle.lane_core.specs.Log.{LogModel}
use Rattle.lane_core.specs.View.{pairs_in}
use Rattle.lane_core.specs.Seats.{log_of}
use Rattle.lane_core.proofs.Counting.{length_without}
use Rattle.lane_queue.specs.Lists.{in_logs}
use Rattle.lane_queue.specs.Seats.{lane_of}
use Rattle.lane_queue.proofs.Sums.{without_one, below_without, slot_removed, in_logs_send, length_send}
use Rattle.lane_core.proofs.Views.{stands_below}
use Rattle.lane_queue.proofs.Sends.{may_put, sender_put, senders_put}
use Rattle.lane_queue.proofs.kit.QueueKitLaneKit.send.Goals as goal

pub push-requires-clause-pass : goal.push-requires-clause-pass
push-requires-clause-pass g c = let l = c.args.lane.now in let s = c.args.seat.now in let q = c.requires in let w : ℕ = c.args.w in
    (q.own.senders w c.index.result.now c.index_mut.result.now (slice_get_read _ _ w _ refl (let a = q.worker in let b = l.count in omega arith) c.index.ensures)
    (slice_get_read _ _ w _ refl (let a = q.worker in let b = q.own.count.1 in omega arith) c.index_mut.ensures.value)).pass

pub push-requires-clause-may : goal.push-requires-clause-may
push-requires-clause-may g c = let l = c.args.lane.now in let s = c.args.seat.now in let q = c.requires in let w : ℕ = c.args.w in let x = c.args.p in
    let sender = q.own.senders w c.index.result.now c.index_mut.result.now (slice_get_read _ _ w _ refl (let a = q.worker in let b = l.count in omega arith) c.index.ensures)
    (slice_get_read _ _ w _ refl (let a = q.worker in let b = q.own.count.1 in omega arith) c.index_mut.ensures.value) in
    may_put (lane_of l) w c.index.result.now c.index_mut.result.now (pairs_in s.sent.items) s.finished x sender q.open_ring q.room (stands_below x.slot l.buffers s.held.items q.held (q.own.below x.slot)) q.of_capture q.rising
    (let a = q.worker in let b = q.own.count.0 in let m = length-map s.sent.items (λ (y : LogModel). y.pairs) in omega arith) q.share

pub overflow_cast-number : goal.overflow_cast-number
overflow_cast-number g c = let l = c.args.lane.now in let k : c.args.p.a < length l.key.shared.key.value.entries = slice_get_within l.key.shared.key.value.entries c.args.p.a c.requires.of_capture.0 c.requires.of_capture.1 in let e = l.entries in let n = ap (λ (p : ℕ × ℕ). p.0) c.key-number.ensures in omega arith

pub invariant_of-seat-clause-claimed : goal.invariant_of-seat-clause-claimed
invariant_of-seat-clause-claimed g c = λ i. let s = c.args.seat.now in let w : ℕ = c.args.w in let x = c.args.p in let sent : List (List Pair) = pairs_in s.sent.items in let p = c.place_of-at.ensures in let n = ap (λ (p : ℕ × ℕ). p.0) c.key-number.ensures in
    let lt : w < length sent = let a = c.requires.worker in let b = c.requires.own.count.0 in let m = length-map s.sent.items (λ (y : LogModel). y.pairs) in omega arith in
    let held = slot_removed _ _ s.held.items c.place_of-at.result x.slot c.slot-slot.result c.as_slice.ensures.value c.slot-slot.ensures p.there.0 p.there.1 p.first c.remove.ensures.items in
    let more : pairs_in c.add_pair.new.logs.items ≡ set sent w (log_of sent w ++ (x.slot, x.a) ∷ []) = c.add_pair.ensures.pairs ∙ (λ j. set sent w (log_of sent w ++ (c.slot-slot.ensures j, n j) ∷ [])) in
    let a = ap (in_logs i) more in let b = in_logs_send i w x.slot x.a sent lt in let d = ap (times i) held in let e = without_one x.slot i s.held.items c.requires.held in let q = s.claimed i in omega arith

pub invariant_of-seat-clause-claims : goal.invariant_of-seat-clause-claims
invariant_of-seat-clause-claims g c = let s = c.args.seat.now in let w : ℕ = c.args.w in let x = c.args.p in let sent : List (List Pair) = pairs_in s.sent.items in let p = c.place_of-at.ensures in let n = ap (λ (p : ℕ × ℕ). p.0) c.key-number.ensures in
    let lt : w < length sent = let a = c.requires.worker in let b = c.requires.own.count.0 in let m = length-map s.sent.items (λ (y : LogModel). y.pairs) in omega arith in
    let held = slot_removed _ _ s.held.items c.place_of-at.result x.slot c.slot-slot.result c.as_slice.ensures.value c.slot-slot.ensures p.there.0 p.there.1 p.first c.remove.ensures.items in
    let more : pairs_in c.add_pair.new.logs.items ≡ set sent w (log_of sent w ++ (x.slot, x.a) ∷ []) = c.add_pair.ensures.pairs ∙ (λ j. set sent w (log_of sent w ++ (c.slot-slot.ensures j, n j) ∷ [])) in
    let a = ap (total (λ (log : List Pair). length log)) more in let b = length_send w x.slot x.a sent lt in let d = ap (λ (l : List ℕ). length l) held in let e = length_without x.slot s.held.items c.requires.held in let q = s.claims in omega arith

pub returns-clause-own : goal.returns-clause-own
returns-clause-own g c = let l = c.args.lane.now in let s = c.args.seat.now in let o = c.requires.own in let q = c.requires in let w : ℕ = c.args.w in let x = c.args.p in let sent : List (List Pair) = pairs_in s.sent.items in let p = c.place_of-at.ensures in
    let n = ap (λ (p : ℕ × ℕ). p.0) c.key-number.ensures in let lt : w < length sent = let a = q.worker in let b = o.count.0 in let m = length-map s.sent.items (λ (y : LogModel). y.pairs) in omega arith in
    let held = slot_removed _ _ s.held.items c.place_of-at.result x.slot c.slot-slot.result c.as_slice.ensures.value c.slot-slot.ensures p.there.0 p.there.1 p.first c.remove.ensures.items in
    let more : pairs_in c.add_pair.new.logs.items ≡ set sent w (log_of sent w ++ (x.slot, x.a) ∷ []) = c.add_pair.ensures.pairs ∙ (λ j. set sent w (log_of sent w ++ (c.slot-slot.ensures j, n j) ∷ [])) in
    let there = slice_get_read _ _ w _ refl (let a = q.worker in let b = l.count in omega arith) c.index.ensures in
    let sender = o.senders w c.index.result.now c.index_mut.result.now there (slice_get_read _ _ w _ refl (let a = q.worker in let b = o.count.1 in omega arith) c.index_mut.ensures.value) in
    let new = sender_put (lane_of l) w c.index.result.now c.index_mut.result.now (log_of sent w) s.finished x c.push.new.pass sender c.push.ensures.same c.push.ensures.put in record {
      pool = o.pool;
      size = o.size;
      once = o.once;
      past = o.past;
      parts = o.parts;
      below = λ k le. ap (times k) held ∙ below_without x.slot l.buffers s.held.items q.held o.below k le;
      room = let a = c.remove.ensures.capacity in let b = o.room in omega arith;
      book = o.book;
      count = (c.add_pair.ensures.long ∙ o.count.0, length-set s.rings.items w c.push.new.pass ∙ o.count.1);
      rooms = λ y. let a = o.rooms y in let b = c.add_pair.ensures.rooms y in omega arith;
      senders = senders_put (lane_of l) s.finished sent (pairs_in c.add_pair.new.logs.items) w (log_of sent w ++ (x.slot, x.a) ∷ []) l.rings.items s.rings.items c.index.result.now c.push.new.pass lt more there new o.senders;
    }

pub returns-clause-sent : goal.returns-clause-sent
returns-clause-sent g c = let s = c.args.seat.now in let w : ℕ = c.args.w in let x = c.args.p in let sent : List (List Pair) = pairs_in s.sent.items in let p = c.place_of-at.ensures in let n = ap (λ (p : ℕ × ℕ). p.0) c.key-number.ensures in
    let held = slot_removed _ _ s.held.items c.place_of-at.result x.slot c.slot-slot.result c.as_slice.ensures.value c.slot-slot.ensures p.there.0 p.there.1 p.first c.remove.ensures.items in
    let more : pairs_in c.add_pair.new.logs.items ≡ set sent w (log_of sent w ++ (x.slot, x.a) ∷ []) = c.add_pair.ensures.pairs ∙ (λ j. set sent w (log_of sent w ++ (c.slot-slot.ensures j, n j) ∷ [])) in record {
      same = λ j. record { sent = more j; held = held j; missed = s.missed; finished = s.finished; finds = s.finds ∷ [] };
      finds = record { count = refl; later = λ i. omega arith };
    }
