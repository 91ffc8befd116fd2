use Rattle.std.proofs.Common.{◌≡◌, ℕ, ◌+◌, ◌%◌, ◌<◌, sym, ap, ◌∙◌, arith, mod-lt}
use Rattle.lane_table.specs.Rule.{base_of}
use Rattle.lane_table.specs.Steps.{closed_by}
use Rattle.lane_table.proofs.Rings.{within}
use Rattle.lane_table.proofs.Decodes.{ring_is}
use Rattle.lane_table.proofs.WordCalls.{close_call}
use Rattle.lane_table.proofs.lane.TableLane.put_end.Goals as goal

pub swap-requires : goal.swap-requires
swap-requires c = let l = c.args.self.now in let q = c.requires in let n = l.key.0 in let near : c.args.count % (l.buffers + 1) < l.buffers + 1 = mod-lt c.args.count (omega arith) in
    let among = within l.buffers c.args.w l.workers (c.args.count % (l.buffers + 1)) near q.lane.1 in let cell = c.cell_of-cell.ensures in (
      q.lane.0,
      (let w = l.sized.0 in omega arith),
      close_call _ _ _ c.args.w _ _ (l.sized.1 ∙ sym n) (cell ∙ λ j. base_of (sym n j) c.args.w + q.place.0 j % (sym n j + 1)) q.seat.0 (let w = l.key.2 in let h = q.lane.1 in omega arith) q.seat.1 q.place.1,
    )

pub returns-clause-closed : goal.returns-clause-closed
returns-clause-closed c = let l = c.args.self.now in let n : ℕ = l.table.shared.table_id.slots in let is : n ≡ l.buffers = l.sized.1 in
    let at : c.cell_of-cell.result ≡ base_of n c.args.w + c.args.count % (n + 1) = c.cell_of-cell.ensures ∙ λ j. base_of (sym is j) c.args.w + c.args.count % (sym is j + 1) in
    let near : c.args.count % (n + 1) < n + 1 = mod-lt c.args.count (omega arith) in
    let d = ap (Rattle.lane_table.specs.Steps.ring_in n) at ∙ ring_is n c.args.w (c.args.count % (n + 1)) near in
    c.swap.ensures.2.1 ∙ (λ j. (closed_by (d j) c.args.seat.now.me.0, c.args.seat.now.me.1))
