use Rattle.std.proofs.Common.{◌≡◌, ◌≢◌, ℕ, ◌<◌, List, [], ◌∷◌, ◌++◌, length, get_or, set, length-append, arith, sym, ap, ◌∙◌, subst}
use Rattle.std.proofs.lemmas.Option.{slice_get_within, slice_get-get_or}
use Rattle.lane_spec.specs.Counts.{times, without, total}
use Rattle.lane_spec.specs.Pairs.{Pair}
use Rattle.lane_core.specs.View.{pairs_in}
use Rattle.lane_core.specs.Seats.{log_of}
use Rattle.lane_core.proofs.Counting.{times_without_else, length_without, total_set}
use Rattle.lane_core.proofs.Views.{removed_is, stands_below}
use Rattle.lane_table.specs.Rule.{mark_at, Below}
use Rattle.lane_table.proofs.Order.{each_below}
use Rattle.lane_table.proofs.lane.TableLane.send.Goals as goal

pub put_entry-requires-clause-lane : goal.put_entry-requires-clause-lane
put_entry-requires-clause-lane c = let l = c.args.self.now in let s = c.args.seat.now in let q = c.requires in let slot : ℕ = c.args.p.slot in
    let has : times slot s.seat.me.0.held ≡ times slot s.held.items = ap (times slot) (sym s.list) in let h = q.held in
    let lt = stands_below slot s.seat.table_id.slots s.seat.me.0.held (omega arith) (s.below slot) in let t = ap (λ t. t.slots) q.own.table in let z = l.sized.1 in
    let k : c.args.p.a < length l.table.shared.key.capture.value.entries = slice_get_within l.table.shared.key.capture.value.entries c.args.p.a q.of_capture.0 q.of_capture.1 in let e = l.entries in (
      c.take_slot.ensures.same.0 ∙ q.own.table,
      (let w = q.worker in let n = l.shares in omega arith),
      omega arith,
      omega arith,
    )

pub put_entry-requires-clause-packet : goal.put_entry-requires-clause-packet
put_entry-requires-clause-packet c = let s = c.args.seat.now in let q = c.requires in (
  q.room,
  q.of_capture,
  λ y. subst (λ (logs : List (List Pair)). Below c.args.p.a (log_of logs y)) (s.logs ∙ sym (ap (λ m. m.0.sent) c.take_slot.ensures.taken)) (each_below c.args.p.a (pairs_in s.sent.items) q.rising y),
)

pub overflow_cast-number : goal.overflow_cast-number
overflow_cast-number c = let l = c.args.self.now in let k : c.args.p.a < length l.table.shared.key.capture.value.entries = slice_get_within l.table.shared.key.capture.value.entries c.args.p.a c.requires.of_capture.0 c.requires.of_capture.1 in let e = l.entries in let n = ap (λ (p : ℕ × ℕ). p.0) c.key-number.ensures in omega arith

pub invariant_of-seat-clause-logs : goal.invariant_of-seat-clause-logs
invariant_of-seat-clause-logs c = let s = c.args.seat.now in let w : ℕ = c.args.w in let p = c.args.p in let tk = ap (λ m. m.0.sent) c.take_slot.ensures.taken in let n = ap (λ (p : ℕ × ℕ). p.0) c.key-number.ensures in
    c.add_pair.ensures.pairs ∙ (λ j. set (s.logs j) w (log_of (s.logs j) w ++ (c.slot-slot.ensures j, n j) ∷ []))
    ∙ (λ j. set (sym tk j) w (log_of (sym tk j) w ++ (p.slot, p.a) ∷ [])) ∙ sym (ap (λ m. m.0.sent) c.put_entry.ensures.sent)

pub invariant_of-seat-clause-long : goal.invariant_of-seat-clause-long
invariant_of-seat-clause-long c = let s = c.args.seat.now in let put = c.put_entry.ensures.sent in let tk = c.take_slot.ensures.taken in let more = sym c.add_pair.ensures.long in (
  ap (λ m. length m.0.ends) put ∙ ap (λ m. length m.0.ends) tk ∙ s.long.0 ∙ more,
  ap (λ m. length m.0.received) put ∙ ap (λ m. length m.0.received) tk ∙ s.long.1 ∙ more,
  ap (λ m. length m.0.ended) put ∙ ap (λ m. length m.0.ended) tk ∙ s.long.2 ∙ more,
)

pub invariant_of-seat-clause-marks : goal.invariant_of-seat-clause-marks
invariant_of-seat-clause-marks c = let s = c.args.seat.now in let n = c.add_pair.ensures.long in
    λ w lt. ap (λ m. mark_at m.0.ends w) c.put_entry.ensures.sent ∙ ap (λ m. mark_at m.0.ends w) c.take_slot.ensures.taken ∙ s.marks w (omega arith)

pub invariant_of-seat-clause-list : goal.invariant_of-seat-clause-list
invariant_of-seat-clause-list c = let s = c.args.seat.now in let slot : ℕ = c.args.p.slot in let xs : List ℕ = s.held.items in let at : ℕ = c.place_of-at.result in let p = c.place_of-at.ensures in
    let F : List ℕ × ℕ → Type 0 = λ k. (at < length k.0) × (get_or k.0 at 0 ≡ k.1) × ((j : ℕ) → j < at → get_or k.0 j 0 ≢ k.1) in
    let here : F (xs, slot) = subst F (λ i. (c.as_slice.ensures.value i, c.slot-slot.ensures i)) (p.there.0, p.there.1, p.first) in
    c.remove.ensures.items ∙ removed_is slot xs at here.0 here.1 here.2 ∙ ap (without slot) (s.list ∙ sym (ap (λ m. m.0.held) c.take_slot.ensures.taken)) ∙ sym (ap (λ m. m.0.held) c.put_entry.ensures.sent)

pub invariant_of-seat-clause-below : goal.invariant_of-seat-clause-below
invariant_of-seat-clause-below c = let s = c.args.seat.now in let slot : ℕ = c.args.p.slot in let xs : List ℕ = s.seat.me.0.held in let has : times slot xs ≡ times slot s.held.items = ap (times slot) (sym s.list) in let h = c.requires.held in
    let t = ap (λ t. t.slots) c.put_entry.ensures.same.0 in let t' = ap (λ t. t.slots) c.take_slot.ensures.same.0 in
    λ j le. ap (λ m. times j m.0.held) c.put_entry.ensures.sent ∙ ap (λ m. times j (without slot m.0.held)) c.take_slot.ensures.taken
    ∙ times_without_else slot j xs (λ e. absurd (let b = s.below j (omega arith) in let d = ap (λ k. times k xs) e in omega arith)) ∙ s.below j (omega arith)

pub invariant_of-seat-clause-claims : goal.invariant_of-seat-clause-claims
invariant_of-seat-clause-claims c = let s = c.args.seat.now in let slot : ℕ = c.args.p.slot in let w : ℕ = c.args.w in let v = s.seat.me.0 in let f : List Pair → ℕ = λ pairs. length pairs in
    let new : List Pair = log_of v.sent w ++ (slot, c.args.p.a) ∷ [] in
    let has : times slot v.held ≡ times slot s.held.items = ap (times slot) (sym s.list) in let h = c.requires.held in
    let count = ap (λ (l : List (List Pair)). length l) s.logs in let made = Rattle.std.proofs.lemmas.List.length-map s.sent.items (λ l. l.pairs) in
    let t = total_set f v.sent w (log_of v.sent w) new (slice_get-get_or v.sent w [] (let e = c.requires.worker in let n = c.args.self.now.shares in let k = c.requires.own.count in omega arith)) in
    let a = length-append (log_of v.sent w) ((slot, c.args.p.a) ∷ []) in let b = length_without slot v.held (omega arith) in let q = s.claims in
    let claimed = ap (λ m. length m.0.claimed) c.put_entry.ensures.sent ∙ ap (λ m. length m.0.claimed) c.take_slot.ensures.taken in
    let sent = ap (λ m. total f m.0.sent) c.put_entry.ensures.sent ∙ ap (λ m. total f (set m.0.sent w (log_of m.0.sent w ++ (slot, c.args.p.a) ∷ []))) c.take_slot.ensures.taken in
    let held = ap (λ m. length m.0.held) c.put_entry.ensures.sent ∙ ap (λ m. length (without slot m.0.held)) c.take_slot.ensures.taken in omega arith

pub returns-clause-own : goal.returns-clause-own
returns-clause-own c = let q = c.requires.own in record {
  table = c.put_entry.ensures.same.0 ∙ c.take_slot.ensures.same.0 ∙ q.table;
  about = ap (λ m. m.0.about) c.put_entry.ensures.sent ∙ ap (λ m. m.0.about) c.take_slot.ensures.taken ∙ q.about;
  count = c.add_pair.ensures.long ∙ q.count;
  rooms = λ w. let a = q.rooms w in let b = c.add_pair.ensures.rooms w in omega arith;
}
