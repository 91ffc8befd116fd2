use Rattle.std.proofs.Common.{◌≡◌, ℕ, ◌+◌, ◌-◌, List, [], ◌∷◌, ◌++◌, length, get_or, length-append, refl, sym, ap, ◌∙◌, subst, arith}
use Rattle.std.proofs.lemmas.List.{length-replicate}
use Rattle.lane_spec.specs.Counts.{times}
use Rattle.lane_core.specs.Seats.{log_of}
use Rattle.lane_table.specs.declared.view.LaneKey.{LaneKey}
use Rattle.lane_table.specs.declared.view.SeatView.{SeatView}
use Rattle.lane_table.specs.Rule.{numbers_from, first_view, mark_at}
use Rattle.lane_table.specs.Hands.{with_roles}
use Rattle.lane_table.specs.Starts.{AreNewFrom}
use Rattle.lane_table.proofs.Seats.{splits, none_at, no_mark}
use Rattle.lane_table.proofs.Starts.{next_role, roles_left, new_last}
use Rattle.lane_table.proofs.lane.TableLane.seat_workers.Goals as goal

pub split_seat-seat-requires : goal.split_seat-seat-requires
split_seat-seat-requires c = let v = c.loop-place.invariant in let l = c.args.self.now in let found = ap (λ m. length m.0.found) v.view ∙ length-replicate l.table.shared.key.buffers 0 in (
  v.table,
  (let w = l.sized.0 in let b = l.small.0 in omega arith),
  splits _ _ _ (let k = l.key.0 in let b = l.small.0 in omega arith) (ap (λ m. m.0.held) v.view) (ap (λ m. m.0.claimed) v.view),
)

pub invariant_of-worker : goal.invariant_of-worker
invariant_of-worker c = let v = c.loop-place.invariant in let l = c.args.self.now in let z : LaneKey = l.table.shared.key in let k : ℕ = c.loop-place.place in let s = c.split_seat-seat.ensures in let lt = c.loop-place-test.true in
    let mine : c.split_seat-seat.result.me.0 ≡ with_roles ((k + 1) ∷ []) (first_view z) = ap (λ m. m.0) s.4 ∙ next_role z (k + 1) (l.workers - k) c.loop-place.first.me.0 (omega arith) (ap (λ m. m.0) v.view) in
    let found = ap (λ (y : SeatView). length y.found) mine ∙ length-replicate z.buffers 0 in let t = ap (λ t. t.slots) (s.3 ∙ v.table) in let a = l.key.0 in let b = l.sized.1 in let d = l.small.0 in let w = l.key.2 in let e = c.in_ok-held.ensures in
    let lr = ap (λ (y : SeatView). length y.received) mine ∙ length-replicate z.workers [] in let le = ap (λ (y : SeatView). length y.ended) mine ∙ length-replicate z.workers _ in let lm = ap (λ (y : SeatView). length y.empty) mine ∙ length-replicate z.workers 0 in record {
      role = ap (λ (y : SeatView). y.roles) mine;
      rest = (ap (λ m. m.1) s.4, ap (λ (y : SeatView). y.out) mine);
      counts = (omega arith, omega arith);
      log = c.in_ok-received.ensures.pairs ∙ sym (ap (λ (y : SeatView). log_of y.received k) mine ∙ none_at z.workers k);
      mark = ap (λ (y : SeatView). mark_at y.ended k) mine ∙ no_mark z.workers k;
      long = (omega arith, omega arith, omega arith);
      list = e.items ∙ sym (ap (λ (y : SeatView). y.held) mine);
      below = λ i _. ap (λ (y : SeatView). times i y.held) mine;
      room = let x = e.exact in let y = e.capacity in omega arith;
    }

pub loop-place-preserved : goal.loop-place-preserved
loop-place-preserved c = let v = c.loop-place.invariant in let l = c.args.self.now in let z : LaneKey = l.table.shared.key in let k : ℕ = c.loop-place.place in let n : ℕ = l.workers in let s = c.split_seat-seat.ensures in let lt = c.loop-place-test.true in
    let first = ap (λ m. m.0) v.view in let mine : c.split_seat-seat.result.me.0 ≡ with_roles ((k + 1) ∷ []) (first_view z) = ap (λ m. m.0) s.4 ∙ next_role z (k + 1) (n - k) c.loop-place.first.me.0 (omega arith) first in
    let less : n - k - 1 ≡ n - (k + 1) = omega arith in let left = roles_left z (k + 1) (n - k) c.loop-place.first.me.0 (omega arith) first ∙ ap (λ (m : ℕ). with_roles (numbers_from (k + 1 + 1) m ++ 0 ∷ []) (first_view z)) less in
    let tail = ap (λ m. m.1) v.view in let e = c.in_ok-push.ensures.items in record {
      table = s.0 ∙ v.table;
      view = s.2 ∙ (λ j. (left j, tail j));
      count = ap (λ l. length l) e ∙ length-append c.loop-place.seats.items _ ∙ (let f = v.count in omega arith);
      seats = subst (AreNewFrom l 0) (sym e) (new_last l 0 k c.loop-place.seats.items _ v.seats (let f = v.count in omega arith)
          (record { table = s.3 ∙ v.table; about = ap (λ (y : SeatView). y.about) mine; place = lt; room = let r = c.in_ok-received.ensures.room in let q = ap (λ (xs : List ℕ). get_or xs k 0) c.requires.shares in omega arith })
          (record { place = refl; received = c.in_ok-received.ensures.pairs; held = c.in_ok-held.ensures.items; ended = refl; idle = refl }));
    }
