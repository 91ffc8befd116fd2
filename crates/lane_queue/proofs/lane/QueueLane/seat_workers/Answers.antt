use Rattle.std.proofs.Common.{◌≡◌, ℕ, ◌+◌, ◌-◌, false, List, [], length, length-append, refl, sym, ap, ◌∙◌, subst, arith}
use Rattle.std.proofs.lemmas.List.{length-set, get_or_read}
use Rattle.std.proofs.lemmas.Option.{slice_get_read}
use Rattle.lane_spec.specs.Counts.{times}
use Rattle.lane_spec.specs.Pairs.{Pair}
use Rattle.lane_queue.specs.declared.pool_rule.PoolView.{PoolView}
use Rattle.lane_queue.specs.PoolRule.{filled_view, kept_parts, given_part}
use Rattle.lane_queue.specs.Seats.{lane_of, IsNewPass, IsSender, IsGetter}
use Rattle.lane_queue.specs.Starts.{AreNewWorkers}
use Rattle.lane_queue.proofs.Lists.{same_some}
use Rattle.lane_queue.proofs.Passing.{none_yet, one_more, all_passed}
use Rattle.lane_queue.proofs.PoolKeeps.{forks}
use Rattle.lane_queue.proofs.Starts.{size_is, no_workers, new_last}
use Rattle.lane_queue.proofs.lane.QueueLane.seat_workers.Goals as goal

pub loop-w-init : goal.loop-w-init
loop-w-init c = let q = c.requires in let l = c.args.self.now in record {
  pool = q.pool.0;
  filled = q.pool.1;
  long = q.count;
  among = none_yet (λ k q p. IsSender (lane_of l) k [] false q p) (λ k q p. IsNewPass q p) l.rings.items c.args.passes.now.items q.rings;
  count = ap (λ l. length l) c.in_ok-workers.ensures.items;
  seats = no_workers l c.in_ok-workers.workers.items c.in_ok-workers.ensures.items;
}

pub open_ring-ring-requires : goal.open_ring-ring-requires
open_ring-ring-requires c = let v = c.loop-w.invariant in let l = c.args.self.now in let w : ℕ = c.loop-w.w in let lt = c.loop-w-test.true in let n = c.len-w-end.ensures in
    record {
      pass = (v.among w c.index-queue.result.now c.index_mut-whole.result.now (slice_get_read _ _ w _ refl (let b = l.count in omega arith) c.index-queue.ensures)
          (slice_get_read _ _ w _ refl (let b = v.long in omega arith) c.index_mut-whole.ensures.value)).behind (omega arith);
    }

pub another-pass-requires-clause-rule : goal.another-pass-requires-clause-rule
another-pass-requires-clause-rule c = let l = c.args.self.now in let lt = c.loop-w-test.true in let n = c.len-w-end.ensures in
    forks _ _ (let p = ap (λ (y : PoolView). y.parts) c.loop-w.invariant.filled in let s = l.small.2 in omega arith)

pub loop-w-preserved : goal.loop-w-preserved
loop-w-preserved c = let v = c.loop-w.invariant in let l = c.args.self.now in let w : ℕ = c.loop-w.w in let lt = c.loop-w-test.true in let n = c.len-w-end.ensures in
    let there = slice_get_read _ _ w _ refl (let b = l.count in omega arith) c.index-queue.ensures in
    let ring = c.open_ring-ring.ensures in let pass = c.another-pass.ensures in let items = c.in_ok-push.ensures.items in
    let less : 1024 - w - 1 ≡ 1024 - (w + 1) = omega arith in record {
      pool = (pass.queue.0.0 ∙ v.pool.0, pass.queue.0.2 ∙ v.pool.1);
      filled = pass.rule.0 ∙ ap kept_parts v.filled ∙ ap (λ (k : ℕ). filled_view k l.bytes l.buffers) less;
      long = length-set c.loop-w.passes.items w c.open_ring-ring.new.pass ∙ v.long;
      among = one_more (λ k q p. IsSender (lane_of l) k [] false q p) (λ k q p. IsNewPass q p) w l.rings.items c.loop-w.passes.items c.index-queue.result.now c.open_ring-ring.new.pass there ring.sender v.among;
      count = ap (λ l. length l) items ∙ length-append c.loop-w.workers.items _ ∙ (let e = v.count in omega arith);
      seats = subst (AreNewWorkers l) (sym items) (new_last l w c.loop-w.workers.items _ v.seats v.count
          record {
            pool = pass.queue.1;
            size = ap (λ (y : PoolView). y.size) (pass.rule.1 ∙ ap given_part v.filled) ∙ size_is l.bytes l.buffers (let s = l.small.0 in omega arith);
            below = λ k le. ap (times k) c.in_ok-held.ensures.items;
            place = omega arith;
            room = let a = c.in_ok-received.ensures.room in let b = get_or_read l.shares.items w c.index.result.now (omega arith) c.index.ensures 0 in omega arith;
            getter = λ q at. subst (λ (log : List Pair). IsGetter (lane_of l) w log false q c.open_ring-ring.result) (sym c.in_ok-received.ensures.pairs)
                (subst (λ q. IsGetter (lane_of l) w [] false q c.open_ring-ring.result) (same_some c.index-queue.result.now q (sym there ∙ at)) ring.getter);
          }
          record { place = refl; received = c.in_ok-received.ensures.pairs; held = c.in_ok-held.ensures.items; ended = refl; idle = refl });
    }

pub returns-clause-rings : goal.returns-clause-rings
returns-clause-rings c = let v = c.loop-w.invariant in let l = c.args.self.now in let t = c.loop-w-test.false in let n = c.len-w-end.ensures in
    all_passed (λ k q p. IsSender (lane_of l) k [] false q p) (λ k q p. IsNewPass q p) c.loop-w.w l.rings.items c.loop-w.passes.items (let b = v.long in omega arith) v.among
