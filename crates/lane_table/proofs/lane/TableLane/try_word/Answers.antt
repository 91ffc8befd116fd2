use Rattle.std.proofs.Common.{◌≡◌, arith, ap, ◌∙◌, sym, length}
use Rattle.lane_table.specs.declared.view.SeatView.{SeatView}
use Rattle.lane_table.specs.declared.view.Stored.TheVariants.{Free}
use Rattle.lane_table.proofs.WordCalls.{claim_call, settle_call, headed, same_front, same_buffer}
use Rattle.lane_table.specs.Steps.{missed_by, settled_by}
use Rattle.atomic_table.specs.Table.{rest}
use Rattle.packet_owner.specs.Buffer.{BufferModel as Buffer}
use Rattle.lane_table.proofs.lane.TableLane.try_word.Goals as goal

pub swap-requires : goal.swap-requires
swap-requires c = let l = c.args.self.now in let h = l.sized in let key = l.key.0 in let q = c.requires in (
  q.lane.0,
  omega arith,
  claim_call _ _ _ _ _ (h.1 ∙ sym key) (omega arith) q.seat.0 q.seat.1 q.seat.2 q.seat.3 q.seat.4,
)

pub exchange-found-requires : goal.exchange-found-requires
exchange-found-requires c = let w = (c.swap.ensures.2 c.args.self.now.table.shared.key c.requires.seat.1).won c.if-swap-eq0.false in (c.swap.ensures.0 ∙ c.requires.lane.0, (Free w.buffer, headed _ _ _ (ap (λ m. m.1) w.seat)))

pub load-requires : goal.load-requires
load-requires c = let w = (c.swap.ensures.2 c.args.self.now.table.shared.key c.requires.seat.1).won c.if-swap-eq0.false in let l = c.args.self.now in let h = l.sized in let key = l.key.0 in let x = c.exchange-found.ensures in
    let view = ap (λ m. m.0) x.3 ∙ ap (λ m. m.0) w.seat in let knows : length c.exchange-found.new.seat.me.0.found ≡ length c.args.seat.now.me.0.found = ap (λ (v : SeatView). length v.found) view in (
      x.0 ∙ c.swap.ensures.0 ∙ c.requires.lane.0,
      omega arith,
      settle_call _ _ _ _ _ (h.1 ∙ sym key) (omega arith) (let k = c.requires.seat.0 in omega arith) _ (ap (λ m. m.1) x.3) (ap (λ v. v.out) view),
    )

pub returns-then-swap-eq0-clause-won : goal.returns-then-swap-eq0-clause-won
returns-then-swap-eq0-clause-won c = let q = c.requires in let l = (c.swap.ensures.2 c.args.self.now.table.shared.key q.seat.1).lost c.if-swap-eq0.true in
    (l.0 ∙ (λ j. (missed_by c.args.i c.args.seat.now.me.0, q.seat.5 j)), l.1)

pub unreachable-requires : goal.unreachable-requires
unreachable-requires c = let w = (c.swap.ensures.2 c.args.self.now.table.shared.key c.requires.seat.1).won c.if-swap-eq0.false in
    c.in_default.not-Free w.buffer (same_front _ _ _ _ _ c.exchange-found.ensures.2 (ap (λ m. m.1) w.seat))

pub returns-clause-won : goal.returns-clause-won
returns-clause-won c = let q = c.requires in let l = c.args.self.now in let w = (c.swap.ensures.2 l.table.shared.key q.seat.1).won c.if-swap-eq0.false in let x = c.exchange-found.ensures in
    let b = same_buffer c.in-Free.b w.buffer (sym c.in-Free.is ∙ same_front _ _ _ _ _ x.2 (ap (λ m. m.1) w.seat)) in
    let view = ap (λ m. m.0) x.3 ∙ ap (λ m. m.0) w.seat in
    let tail = ap (λ m. rest m.1) x.3 ∙ ap (λ m. rest m.1) w.seat ∙ q.seat.5 in (
      ap (λ (y : Buffer). y.slot) b ∙ w.slot,
      ap (λ (y : Buffer). y.room) b ∙ w.room ∙ l.key.1,
      c.load.ensures.2 ∙ (λ j. (settled_by (view j), tail j)),
      (let f = w.fewer in let k = l.key.0 in omega arith),
      w.alone,
    )
