use Rattle.std.proofs.Common.{◌≡◌, ℕ, ◌+◌, ◌%◌, ◌<◌, [], ◌∷◌, length, sym, ap, ◌∙◌, subst, arith, mod-lt}
use Rattle.atomic_table.specs.Table.{rest}
use Rattle.lane_table.specs.declared.view.SeatView.{SeatView}
use Rattle.lane_table.specs.declared.view.Stored.TheVariants.{Filled}
use Rattle.lane_table.specs.Rule.{base_of}
use Rattle.lane_table.specs.Steps.{empty_by, ended_by, settled_by}
use Rattle.lane_table.proofs.Rings.{within}
use Rattle.lane_table.proofs.WordCalls.{settle_call, headed, same_front}
use Rattle.lane_table.proofs.RingCalls.{receive_call, told, is_next, IsNext, same_packet}
use Rattle.lane_table.proofs.lane.TableLane.take_entry.Goals as goal

pub swap-word-requires : goal.swap-word-requires
swap-word-requires c = let l = c.args.self.now in let q = c.requires in let n = l.key.0 in let near : c.args.count % (l.buffers + 1) < l.buffers + 1 = mod-lt c.args.count (omega arith) in
    let among = within l.buffers c.args.w l.workers (c.args.count % (l.buffers + 1)) near q.lane.1 in let cell = c.cell_of-cell.ensures in (
      q.lane.0,
      (let w = l.sized.0 in omega arith),
      receive_call _ _ _ c.args.w _ _ (l.sized.1 ∙ sym n) (cell ∙ λ j. base_of (sym n j) c.args.w + q.place.0 j % (sym n j + 1)) q.seat.0 (let w = l.key.2 in let h = q.lane.1 in omega arith) q.seat.2 q.seat.3 q.seat.4 q.place.1
          (let b = l.small.1 in omega arith) q.seat.1,
    )

-- where the cell lies
pub at_cell : (n m w count cell : ℕ) → n ≡ m → cell ≡ base_of m w + count % (m + 1) → cell ≡ base_of n w + count % (n + 1)
at_cell n m w count cell is e = e ∙ λ j. base_of (sym is j) w + count % (sym is j + 1)

pub returns-then-word-eq0-clause-nothing : goal.returns-then-word-eq0-clause-nothing
returns-then-word-eq0-clause-nothing c = let l = c.args.self.now in let q = c.requires in
    let t = told l.table.shared.key l.table.shared.table_id.slots c.args.w c.cell_of-cell.result c.args.count _ _ _ (at_cell _ _ c.args.w c.args.count _ l.sized.1 c.cell_of-cell.ensures) q.seat.1 c.swap-word.ensures.2 in
    t.nothing c.if-word-eq0.true ∙ (λ j. (empty_by c.args.w c.args.seat.now.me.0, q.seat.5 j))

pub returns-then-word-eq-END-clause-ended : goal.returns-then-word-eq-END-clause-ended
returns-then-word-eq-END-clause-ended c = let l = c.args.self.now in let q = c.requires in
    let t = told l.table.shared.key l.table.shared.table_id.slots c.args.w c.cell_of-cell.result c.args.count _ _ _ (at_cell _ _ c.args.w c.args.count _ l.sized.1 c.cell_of-cell.ensures) q.seat.1 c.swap-word.ensures.2 in
    t.last c.if-word-eq-END.true ∙ (λ j. (ended_by c.args.w c.args.seat.now.me.0, q.seat.5 j))

pub exchange-found-requires : goal.exchange-found-requires
exchange-found-requires c = let l = c.args.self.now in let q = c.requires in
    let t = told l.table.shared.key l.table.shared.table_id.slots c.args.w c.cell_of-cell.result c.args.count _ _ _ (at_cell _ _ c.args.w c.args.count _ l.sized.1 c.cell_of-cell.ensures) q.seat.1 c.swap-word.ensures.2 in
    let g = t.next c.if-word-eq0.false c.if-word-eq-END.false in let i = is_next _ _ _ _ _ _ (let b = l.small.1 in let k = l.key.0 in omega arith) g in let at = c.slot_of-slot.ensures ∙ i.slot in
    (c.swap-word.ensures.0 ∙ q.lane.0, (Filled g.packet, headed _ _ _ (ap (λ m. m.1) i.seat ∙ (λ j. (sym at j, Filled g.packet) ∷ c.args.seat.now.me.1))))

pub load-requires : goal.load-requires
load-requires c = let l = c.args.self.now in let q = c.requires in
    let t = told l.table.shared.key l.table.shared.table_id.slots c.args.w c.cell_of-cell.result c.args.count _ _ _ (at_cell _ _ c.args.w c.args.count _ l.sized.1 c.cell_of-cell.ensures) q.seat.1 c.swap-word.ensures.2 in
    let g = t.next c.if-word-eq0.false c.if-word-eq-END.false in let i = is_next _ _ _ _ _ _ (let b = l.small.1 in let k = l.key.0 in omega arith) g in let at = c.slot_of-slot.ensures ∙ i.slot in
    let x = c.exchange-found.ensures in let view = ap (λ m. m.0) x.3 ∙ ap (λ m. m.0) i.seat in
    let knows : length c.exchange-found.new.seat.me.0.found ≡ length c.args.seat.now.me.0.found = ap (λ (v : SeatView). length v.found) view in (
      x.0 ∙ c.swap-word.ensures.0 ∙ q.lane.0,
      (let b = i.inside in let k = l.key.0 in let h = l.sized.0 in omega arith),
      settle_call _ _ _ _ _ (l.sized.1 ∙ sym l.key.0) (let b = i.inside in omega arith) (let k = q.seat.0 in omega arith) _ (ap (λ m. m.1) x.3) (ap (λ v. v.out) view ∙ ap (λ k. k ∷ []) (sym at)),
    )

pub unreachable-requires : goal.unreachable-requires
unreachable-requires c = let l = c.args.self.now in let q = c.requires in
    let t = told l.table.shared.key l.table.shared.table_id.slots c.args.w c.cell_of-cell.result c.args.count _ _ _ (at_cell _ _ c.args.w c.args.count _ l.sized.1 c.cell_of-cell.ensures) q.seat.1 c.swap-word.ensures.2 in
    let g = t.next c.if-word-eq0.false c.if-word-eq-END.false in let i = is_next _ _ _ _ _ _ (let b = l.small.1 in let k = l.key.0 in omega arith) g in let at = c.slot_of-slot.ensures ∙ i.slot in
    c.in_default.not-Filled g.packet (same_front _ _ _ _ _ c.exchange-found.ensures.2 (ap (λ m. m.1) i.seat))

pub returns-clause-packet : goal.returns-clause-packet
returns-clause-packet c = let l = c.args.self.now in let q = c.requires in
    let t = told l.table.shared.key l.table.shared.table_id.slots c.args.w c.cell_of-cell.result c.args.count _ _ _ (at_cell _ _ c.args.w c.args.count _ l.sized.1 c.cell_of-cell.ensures) q.seat.1 c.swap-word.ensures.2 in
    let g = t.next c.if-word-eq0.false c.if-word-eq-END.false in let i = is_next _ _ _ _ _ _ (let b = l.small.1 in let k = l.key.0 in omega arith) g in let at = c.slot_of-slot.ensures ∙ i.slot in
    let same = same_packet c.in-Filled.p g.packet (sym c.in-Filled.is ∙ same_front _ _ _ _ _ c.exchange-found.ensures.2 (ap (λ m. m.1) i.seat)) in
    let n = subst (IsNext l.table.shared.key c.args.w c.args.seat.now.me.0 c.args.seat.now.me.1 c.swap-word.result c.swap-word.new.seat.me) (sym same) i in (n.room ∙ l.key.1, n.entry, n.above, (let b = n.inside in let k = l.key.0 in omega arith))

pub returns-clause-received : goal.returns-clause-received
returns-clause-received c = let l = c.args.self.now in let q = c.requires in
    let t = told l.table.shared.key l.table.shared.table_id.slots c.args.w c.cell_of-cell.result c.args.count _ _ _ (at_cell _ _ c.args.w c.args.count _ l.sized.1 c.cell_of-cell.ensures) q.seat.1 c.swap-word.ensures.2 in
    let g = t.next c.if-word-eq0.false c.if-word-eq-END.false in let i = is_next _ _ _ _ _ _ (let b = l.small.1 in let k = l.key.0 in omega arith) g in let at = c.slot_of-slot.ensures ∙ i.slot in
    let same = same_packet c.in-Filled.p g.packet (sym c.in-Filled.is ∙ same_front _ _ _ _ _ c.exchange-found.ensures.2 (ap (λ m. m.1) i.seat)) in
    let n = subst (IsNext l.table.shared.key c.args.w c.args.seat.now.me.0 c.args.seat.now.me.1 c.swap-word.result c.swap-word.new.seat.me) (sym same) i in
    let x = c.exchange-found.ensures in let view = ap (λ m. m.0) x.3 ∙ ap (λ m. m.0) n.seat in let tail = ap (λ m. rest m.1) x.3 ∙ ap (λ m. rest m.1) n.seat ∙ q.seat.5 in
    c.load.ensures.2 ∙ (λ j. (settled_by (view j), tail j))

pub returns-clause-room : goal.returns-clause-room
returns-clause-room c = let l = c.args.self.now in let q = c.requires in
    let t = told l.table.shared.key l.table.shared.table_id.slots c.args.w c.cell_of-cell.result c.args.count _ _ _ (at_cell _ _ c.args.w c.args.count _ l.sized.1 c.cell_of-cell.ensures) q.seat.1 c.swap-word.ensures.2 in
    let g = t.next c.if-word-eq0.false c.if-word-eq-END.false in let i = is_next _ _ _ _ _ _ (let b = l.small.1 in let k = l.key.0 in omega arith) g in let at = c.slot_of-slot.ensures ∙ i.slot in
    ((let f = i.fewer in let k = l.key.0 in omega arith), (let f = i.left in let k = q.place.0 in omega arith))
