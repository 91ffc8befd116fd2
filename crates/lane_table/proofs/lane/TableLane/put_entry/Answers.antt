use Rattle.std.proofs.Common.{◌≡◌, ℕ, ◌+◌, ◌%◌, ◌<◌, [], ◌∷◌, length, sym, ap, ◌∙◌, subst, arith, mod-lt}
use Rattle.atomic_table.specs.Table.{rest}
use Rattle.lane_spec.specs.Counts.{times}
use Rattle.lane_table.specs.declared.view.SeatView.{SeatView}
use Rattle.lane_table.specs.Cells.{entry_word}
use Rattle.lane_table.specs.Rule.{base_of, mark_at, Below}
use Rattle.lane_table.specs.Steps.{sent_by}
use Rattle.lane_table.proofs.Rings.{within}
use Rattle.lane_table.proofs.SendCall.{send_call, decoded}
use Rattle.lane_core.specs.Seats.{log_of}
use Rattle.lane_table.proofs.lane.TableLane.put_entry.Goals as goal

pub swap-requires : goal.swap-requires
swap-requires c = let l = c.args.self.now in let q = c.requires in let s = c.slot-slot.ensures in let x = c.exchange.ensures in let v = ap (λ m. m.0) x.3 in
    let n = l.key.0 in let k = sym v in
    let count : c.args.count ≡ length (log_of c.exchange.new.seat.me.0.sent c.args.w) = q.place.0 ∙ ap (λ (y : SeatView). length (log_of y.sent c.args.w)) k in
    let near : c.args.count % (l.buffers + 1) < l.buffers + 1 = mod-lt c.args.count (omega arith) in let among = within l.buffers c.args.w l.workers (c.args.count % (l.buffers + 1)) near q.lane.1 in
    let cell = c.cell_of-cell.ensures in (
      x.0 ∙ q.lane.0,
      (let w = l.sized.0 in omega arith),
      send_call _ _ _ c.args.w c.slot-slot.result c.args.p.a _ _ _ _ _ (l.sized.1 ∙ sym n)
          (cell ∙ λ j. base_of (sym n j) c.args.w + count j % (sym n j + 1))
          (c.entry_of-entry.ensures ∙ ap (λ n. entry_word (c.slot-slot.result, n)) (ap (λ (p : ℕ × ℕ). p.0) c.key-number.ensures))
          (ap (λ m. m.1) x.3)
          (subst (λ (y : SeatView). 0 < length y.found) k q.seat.0)
          (let w = l.key.2 in let h = q.lane.1 in omega arith)
          (let h = q.lane.2 in omega arith)
          (let h = q.lane.2 in let b = l.small.1 in omega arith)
          (subst (λ (y : SeatView). 0 < times 0 y.roles) k q.seat.1)
          (ap (λ y. y.out) v ∙ q.seat.2 ∙ ap (λ i. i ∷ []) (sym s))
          (sym s)
          (q.packet.0 ∙ sym l.key.1)
          q.packet.1
          (λ y. subst (λ (u : SeatView). Below c.args.p.a (log_of u.sent y)) k (q.packet.2 y))
          (ap (λ (u : SeatView). mark_at u.ends c.args.w) v ∙ q.place.1)
          (let left = q.place.2 in omega arith),
    )

pub returns-clause-sent : goal.returns-clause-sent
returns-clause-sent c = let l = c.args.self.now in let q = c.requires in let s = c.slot-slot.ensures in let x = c.exchange.ensures in
    let n : ℕ = l.table.shared.table_id.slots in let i : ℕ = c.slot-slot.result in let is : n ≡ l.buffers = l.sized.1 in let place : ℕ = c.args.count % (n + 1) in
    let at : c.cell_of-cell.result ≡ base_of n c.args.w + place = c.cell_of-cell.ensures ∙ λ j. base_of (sym is j) c.args.w + c.args.count % (sym is j + 1) in
    let near : place < n + 1 = mod-lt c.args.count (omega arith) in
    let small : i < 2048 = let h = q.lane.2 in let b = l.small.1 in omega arith in
    let d = decoded n c.args.w i c.args.p.a c.cell_of-cell.result c.entry_of-entry.result place c.exchange.new.seat.me.0 at near (c.entry_of-entry.ensures ∙ ap (λ n. entry_word (c.slot-slot.result, n)) (ap (λ (p : ℕ × ℕ). p.0) c.key-number.ensures)) small in
    let left : rest c.exchange.new.seat.me.1 ≡ [] = ap (λ m. rest m.1) x.3 ∙ ap rest q.seat.3 in
    let v = ap (λ m. m.0) x.3 in
    c.swap.ensures.2.seat ∙ (λ j. (d j, left j)) ∙ (λ j. (sent_by c.args.w (s j) c.args.p.a (v j), []))
