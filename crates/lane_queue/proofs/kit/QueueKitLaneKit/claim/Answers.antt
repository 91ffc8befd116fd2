use Rattle.std.proofs.Common.{ℕ, List, [], ◌∷◌, ◌++◌, length, ap, ◌∙◌, subst, arith, length-append, Option}
use Rattle.crossbeam_queue.specs.Passes.{view}
use Rattle.lane_spec.specs.Counts.{times}
use Rattle.lane_core.proofs.Counting.{times_append, all_below}
use Rattle.lane_queue.specs.declared.pool_rule.PoolView.{PoolView}
use Rattle.lane_queue.specs.PoolRule.{FitsPool}
use Rattle.lane_queue.proofs.Sums.{below_last}
use Rattle.lane_queue.proofs.kit.QueueKitLaneKit.claim.Goals as goal

pub invariant_of-seat-clause-claimed : goal.invariant_of-seat-clause-claimed
invariant_of-seat-clause-claimed g c = λ i. let w = c.in-Some.ensures.given.view in let s = c.args.seat.now in let b : ℕ = c.in-Some.b.slot in let items = c.add_slot.ensures.items ∙ ap (λ n. s.held.items ++ n ∷ []) c.slot.ensures in
    let a = ap (λ (v : PoolView). times i v.taken) w in let d = times_append i (view s.pass).taken (b ∷ []) in let e = times_append i s.held.items (b ∷ []) in let f = ap (times i) items in let q = s.claimed i in omega arith

pub invariant_of-seat-clause-claims : goal.invariant_of-seat-clause-claims
invariant_of-seat-clause-claims g c = let w = c.in-Some.ensures.given.view in let s = c.args.seat.now in
    let a = ap (λ (v : PoolView). length v.taken) w in let d = length-append (view s.pass).taken (c.in-Some.b.slot ∷ []) in let e = length-append s.held.items (c.slot.result ∷ []) in let f = ap (λ (l : List ℕ). length l) c.add_slot.ensures.items in let q = s.claims in omega arith

pub returns-in-Some-clause-own : goal.returns-in-Some-clause-own
returns-in-Some-clause-own g c = let o = c.requires.own in let w = c.in-Some.ensures.given.view in let s = c.args.seat.now in let b = c.in-Some.b in let items = c.add_slot.ensures.items ∙ ap (λ n. s.held.items ++ n ∷ []) c.slot.ensures in
    let fits = subst (λ (a : Option (ℕ × ℕ)). FitsPool a b) o.size c.in-Some.ensures.given.fits in let same = c.take.ensures.same in record {
      pool = (same.0 ∙ o.pool.0, same.2 ∙ o.pool.1);
      size = ap (λ (v : PoolView). v.size) w ∙ o.size;
      once = λ k lt. ap (λ (v : PoolView). times k v.put) w ∙ o.once k lt;
      past = λ k le. ap (λ (v : PoolView). times k v.put) w ∙ o.past k le;
      parts = let a = ap (λ (v : PoolView). v.parts) w in let b = o.parts in omega arith;
      below = λ k le. ap (times k) items ∙ below_last b.slot c.args.lane.now.buffers s.held.items fits.1 o.below k le;
      room = let a = c.add_slot.ensures.room in let b = o.room in omega arith;
      book = o.book;
      count = o.count;
      rooms = o.rooms;
      senders = o.senders;
    }

pub returns-in-None-clause-all_given : goal.returns-in-None-clause-all_given
returns-in-None-clause-all_given g c = let s = c.args.seat.now in let h = c.in-None.ensures.given.1 in let o = c.requires.own in
    let d = all_below c.args.lane.now.buffers (view s.pass).taken (λ k lt. let a = o.once k lt in let b = h k in omega arith) in let q = s.claims in omega arith
