use Rattle.std.proofs.Common.{ℕ, true, List, length, refl, sym, ap, ◌∙◌, subst, arith}
use Rattle.std.proofs.lemmas.List.{length-set}
use Rattle.std.proofs.lemmas.Option.{slice_get_read}
use Rattle.std.specs.Prelude.{vec_capacity}
use Rattle.crossbeam_queue.specs.Passes.{Pass, view}
use Rattle.packet_owner.specs.Buffer.{BufferModel}
use Rattle.lane_queue.specs.declared.pool_rule.PoolView.{PoolView}
use Rattle.lane_spec.specs.Counts.{times}
use Rattle.lane_spec.specs.Pairs.{Pair}
use Rattle.lane_core.specs.View.{pairs_in}
use Rattle.lane_core.specs.Seats.{log_of}
use Rattle.lane_queue.specs.Lists.{rooms_in}
use Rattle.lane_queue.specs.Seats.{lane_of, IsSender}
use Rattle.lane_queue.proofs.Passing.{none_yet, one_more, all_passed}
use Rattle.lane_queue.proofs.Sends.{may_end, sender_ends}
use Rattle.lane_queue.proofs.kit.QueueKitLaneKit.finish.Goals as goal

pub loop-w-init : goal.loop-w-init
loop-w-init g c = let o = c.requires.own in let l = c.args.lane.now in let s = c.args.seat.now in let sent : List (List Pair) = pairs_in s.sent.items in record {
  pass = refl;
  sent = refl;
  held = refl;
  missed = refl;
  finds = refl;
  home = refl;
  received = refl;
  long = o.count.1 ∙ sym l.count;
  among = none_yet (λ k q p. IsSender (lane_of l) k (log_of sent k) true q p) (λ k q p. IsSender (lane_of l) k (log_of sent k) s.finished q p) l.rings.items s.rings.items o.senders;
}

pub push-requires-clause-pass : goal.push-requires-clause-pass
push-requires-clause-pass g c = let v = c.loop-w.invariant in let w : ℕ = c.loop-w.w in let lt = c.loop-w-test.true in let n = c.len-w-end.ensures in
    ((v.among w c.index-ring.result.now c.index_mut-pass.result.now (slice_get_read _ _ w _ refl (omega arith) c.index-ring.ensures)
    (slice_get_read _ _ w _ refl (let b = v.long in omega arith) c.index_mut-pass.ensures.value)).behind (omega arith)).pass

pub push-requires-clause-may : goal.push-requires-clause-may
push-requires-clause-may g c = let v = c.loop-w.invariant in let w : ℕ = c.loop-w.w in let lt = c.loop-w-test.true in let n = c.len-w-end.ensures in let s = c.args.seat.now in
    may_end (lane_of c.args.lane.now) w c.index-ring.result.now c.index_mut-pass.result.now (log_of (pairs_in s.sent.items) w) s.finished
    ((v.among w c.index-ring.result.now c.index_mut-pass.result.now (slice_get_read _ _ w _ refl (omega arith) c.index-ring.ensures)
    (slice_get_read _ _ w _ refl (let b = v.long in omega arith) c.index_mut-pass.ensures.value)).behind (omega arith)) c.requires.open_ring

pub loop-w-preserved : goal.loop-w-preserved
loop-w-preserved g c = let v = c.loop-w.invariant in let w : ℕ = c.loop-w.w in let lt = c.loop-w-test.true in let n = c.len-w-end.ensures in let l = c.args.lane.now in let s = c.args.seat.now in let sent : List (List Pair) = pairs_in s.sent.items in
    let there = slice_get_read _ _ w _ refl (omega arith) c.index-ring.ensures in
    let sender = (v.among w c.index-ring.result.now c.index_mut-pass.result.now there (slice_get_read _ _ w _ refl (let b = v.long in omega arith) c.index_mut-pass.ensures.value)).behind (omega arith) in record {
      pass = v.pass;
      sent = v.sent;
      held = v.held;
      missed = v.missed;
      finds = v.finds;
      home = v.home;
      received = v.received;
      long = length-set c.loop-w.seat.rings.items w c.push.new.pass ∙ v.long;
      among = one_more (λ k q p. IsSender (lane_of l) k (log_of sent k) true q p) (λ k q p. IsSender (lane_of l) k (log_of sent k) s.finished q p) w l.rings.items c.loop-w.seat.rings.items c.index-ring.result.now c.push.new.pass there
          (sender_ends (lane_of l) w c.index-ring.result.now c.index_mut-pass.result.now (log_of sent w) s.finished c.push.new.pass sender c.push.ensures.same c.push.ensures.put) v.among;
    }

pub returns-clause-own : goal.returns-clause-own
returns-clause-own g c = let o = c.requires.own in let v = c.loop-w.invariant in let l = c.args.lane.now in let s = c.args.seat.now in let t = c.loop-w-test.false in let n = c.len-w-end.ensures in let sent : List (List Pair) = pairs_in s.sent.items in
    let all = all_passed (λ k q p. IsSender (lane_of l) k (log_of sent k) true q p) (λ k q p. IsSender (lane_of l) k (log_of sent k) s.finished q p) c.loop-w.w l.rings.items c.loop-w.seat.rings.items (let b = v.long in omega arith) v.among in record {
      pool = (ap (λ (p : Pass BufferModel PoolView). p.table_id) v.pass ∙ o.pool.0, ap (λ (p : Pass BufferModel PoolView). p.me.1) v.pass ∙ o.pool.1);
      size = ap (λ (p : Pass BufferModel PoolView). (view p).size) v.pass ∙ o.size;
      once = λ k lt. ap (λ (p : Pass BufferModel PoolView). times k (view p).put) v.pass ∙ o.once k lt;
      past = λ k le. ap (λ (p : Pass BufferModel PoolView). times k (view p).put) v.pass ∙ o.past k le;
      parts = let p = ap (λ (p : Pass BufferModel PoolView). (view p).parts) v.pass in let b = o.parts in omega arith;
      below = λ k le. ap (λ h. times k h.items) v.held ∙ o.below k le;
      room = let a = ap (λ h. vec_capacity h) v.held in let b = o.room in omega arith;
      book = (
        ap (λ h. h.items) v.home ∙ o.book.0,
        ap (λ h. h.items) v.received ∙ o.book.1,
        (let a = ap (λ h. vec_capacity h) v.home in let b = o.book.2 in omega arith),
        (let a = ap (λ h. vec_capacity h) v.received in let b = o.book.3 in omega arith),
      );
      count = (ap (λ x. length x.items) v.sent ∙ o.count.0, v.long ∙ l.count);
      rooms = λ w. let a = ap (λ x. Rattle.std.specs.Prelude.slice_index (rooms_in x.items) w) v.sent in let b = o.rooms w in omega arith;
      senders = λ w q p eq ep. subst (λ (log : List Pair). IsSender (lane_of l) w log true q p) (sym (ap (λ x. log_of (pairs_in x.items) w) v.sent)) (all w q p eq ep);
    }
