use Rattle.std.proofs.Common.{ℕ, false, List, [], length, get_or, replicate, refl, sym, ap, ◌∙◌, subst, arith}
use Rattle.lane_spec.specs.Counts.{times, total}
use Rattle.lane_spec.specs.Pairs.{Pair}
use Rattle.lane_core.specs.Seats.{log_of}
use Rattle.lane_queue.specs.declared.pool_rule.PoolView.{PoolView}
use Rattle.lane_queue.specs.Lists.{in_logs}
use Rattle.lane_queue.specs.Seats.{lane_of, IsSender}
use Rattle.lane_queue.proofs.Starts.{times_from, times_past, size_is, none_sent, no_slots, none_at}
use Rattle.lane_queue.proofs.lane.QueueLane.seat_ingest.Goals as goal

pub invariant_of-result : goal.invariant_of-result
invariant_of-result c = let l = c.args.self.now in let k = c.requires.pool.1 in let empty = c.in_ok-sent.ensures.empty in let n : ℕ = length c.as_slice.result.now in let none = c.in_ok-held.ensures.items in record {
  may = ((let p = ap (λ (v : PoolView). v.parts) k in let s = l.small.2 in omega arith), ap (λ (v : PoolView). v.takes) k);
  claimed = λ i. let a = ap (λ (v : PoolView). times i v.taken) k in let b = ap (in_logs i) empty in let d = no_slots i n in let e = ap (times i) none in omega arith;
  claims = let a = ap (λ (v : PoolView). length v.taken) k in let b = ap (total (λ (pairs : List Pair). length pairs)) empty in let d = none_sent n in let e = ap (λ (l : List ℕ). length l) none in omega arith;
}

pub returns : goal.returns
returns c = let l = c.args.self.now in let q = c.requires in let k = q.pool.1 in let s = c.in_ok-sent.ensures in let e = c.as_slice.ensures.value in let m : ℕ = length l.shares.items in
    let empty = s.empty ∙ ap (λ (xs : List ℕ). let r : List (List Pair) = replicate (length xs) [] in r) e in (
      record {
        pool = q.pool.0;
        size = ap (λ (v : PoolView). v.size) k ∙ size_is l.bytes l.buffers (let b = l.small.0 in omega arith);
        once = λ i lt. ap (λ (v : PoolView). times i v.put) k ∙ times_from i 0 l.buffers (omega arith) (omega arith);
        past = λ i le. ap (λ (v : PoolView). times i v.put) k ∙ times_past i 0 l.buffers (omega arith);
        parts = let p = ap (λ (v : PoolView). v.parts) k in let b = l.small.2 in omega arith;
        below = λ i le. ap (times i) c.in_ok-held.ensures.items;
        room = let x = c.in_ok-held.ensures.exact in let y = c.in_ok-held.ensures.capacity in omega arith;
        book = (
          c.in_ok-home.ensures.items,
          c.in_ok-received.ensures.items,
          (let x = c.in_ok-home.ensures.exact in let y = c.in_ok-home.ensures.capacity in omega arith),
          (let x = c.in_ok-received.ensures.exact in let y = c.in_ok-received.ensures.capacity in let z = c.len.ensures in omega arith),
        );
        count = (s.count ∙ ap (λ (xs : List ℕ). length xs) e, q.count);
        rooms = λ w. let a = s.rooms w in let b = ap (λ (xs : List ℕ). get_or xs w 0) e in omega arith;
        senders = λ w x p eq ep. subst (λ (log : List Pair). IsSender (lane_of l) w log false x p) (sym (ap (λ (logs : List (List Pair)). log_of logs w) empty ∙ none_at m w)) (q.rings w x p eq ep);
      },
      record { sent = empty; held = c.in_ok-held.ensures.items; missed = refl; finished = refl; finds = omega arith },
    )
