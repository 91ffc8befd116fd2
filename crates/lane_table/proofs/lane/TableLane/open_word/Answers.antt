use Rattle.std.proofs.Common.{◌≡◌, ℕ, ◌<◌, arith, ap, ◌∙◌, sym, subst, length}
use Rattle.lane_spec.specs.Counts.{times}
use Rattle.lane_table.specs.declared.view.SeatView.{SeatView}
use Rattle.lane_table.proofs.WordCalls.{take_call, release_call}
use Rattle.lane_table.proofs.lane.TableLane.open_word.Goals as goal

pub load-requires : goal.load-requires
load-requires c = let l = c.args.self.now in let h = l.sized in let key = l.key.0 in let q = c.requires in let s = c.slot-i.ensures in (
  q.lane.0,
  (let b = q.lane.1 in omega arith),
  take_call _ _ _ _ _ (h.1 ∙ sym key) (let b = q.lane.1 in omega arith) q.seat.0 q.seat.1 (let F : ℕ → Type 0 = λ k. 0 < times k c.args.seat.now.me.0.held in subst F (sym s) q.seat.3),
)

pub swap-requires : goal.swap-requires
swap-requires c = let l = c.args.self.now in let h = l.sized in let key = l.key.0 in let q = c.requires in let s = c.slot-i.ensures in let x = c.exchange.ensures in let e = c.load.ensures.2 in
    let view = ap (λ m. m.0) x.3 ∙ ap (λ m. m.0) e in let knows : length c.exchange.new.seat.me.0.found ≡ length c.args.seat.now.me.0.found = ap (λ (v : SeatView). length v.found) view in (
      x.0 ∙ c.load.ensures.0 ∙ q.lane.0,
      (let b = q.lane.1 in omega arith),
      release_call _ _ _ _ _ (h.1 ∙ sym key) (let b = q.lane.1 in omega arith) (let k = q.seat.0 in omega arith) _ _ (ap (λ m. m.1) x.3) (ap (λ v. v.out) view) (sym s) (q.lane.2 ∙ sym l.key.1),
    )
