use Rattle.std.proofs.Common.{◌≡◌, ℕ, ◌+◌, List, [], ◌∷◌, ◌++◌, length, sym, ap, ◌∙◌, subst, arith, append_assoc}
use Rattle.std.specs.List.{remove}
use mathlib.Core.List.{map-append}
use Rattle.lane_core.specs.Log.{LogModel}
use Rattle.lane_core.specs.View.{pairs_in}
use Rattle.lane_queue.specs.declared.lane.QueueWorker.{QueueWorker}
use Rattle.lane_queue.specs.Ends.{AreEndedFrom, HasJoined, logs_of}
use Rattle.lane_queue.proofs.Ends.{front_is, next_joined}
use Rattle.lane_queue.proofs.lane.QueueLane.join_all.Goals as goal

pub join_worker-requires-clause-ring : goal.join_worker-requires-clause-ring
join_worker-requires-clause-ring c = let v = c.loop-done.invariant in let x : QueueWorker = c.remove-worker.result in let lt = c.loop-done-test.true in let n = c.len-count.ensures in let left = v.left in
    let items = front_is c.loop-done.workers.items x (omega arith) c.remove-worker.ensures.value in let e = subst (AreEndedFrom c.args.self.now c.loop-done.done) items v.ended in
    λ w q p eq ep is. v.joined.left w q p eq ep (let place = e.0.1 in omega arith)

pub loop-done-preserved : goal.loop-done-preserved
loop-done-preserved c = let v = c.loop-done.invariant in let x : QueueWorker = c.remove-worker.result in let lt = c.loop-done-test.true in let n = c.len-count.ensures in let left = v.left in let l = c.args.self.now in
    let items = front_is c.loop-done.workers.items x (omega arith) c.remove-worker.ensures.value in let e = subst (AreEndedFrom l c.loop-done.done) items v.ended in
    let more : List QueueWorker = remove c.loop-done.workers.items 0 in let rm : c.remove-worker.new.self.items ≡ more = c.remove-worker.ensures.items in let old : List LogModel = c.loop-done.seat.received.items in
    let j = c.join_worker.ensures in
    let logs : pairs_in c.join_worker.new.seat.received.items ≡ pairs_in old ++ x.received.pairs ∷ [] = ap pairs_in j.received.0 ∙ map-append (λ (m : LogModel). m.pairs) old (x.received ∷ []) in record {
      left = let a = ap (λ (m : List QueueWorker). length m) items in let b = ap (λ (m : List QueueWorker). length m) rm in omega arith;
      ended = subst (AreEndedFrom l (c.loop-done.done + 1)) (sym rm) e.1;
      logs = (λ k. logs k ++ logs_of (rm k)) ∙ append_assoc (pairs_in old) (x.received.pairs ∷ []) (logs_of more) ∙ ap (λ (m : List QueueWorker). pairs_in old ++ logs_of m) (sym items) ∙ v.logs;
      sent = j.kept.0 ∙ v.sent;
      held = j.kept.1 ∙ v.held;
      missed = j.kept.2 ∙ v.missed;
      joined = next_joined l c.loop-done.done c.loop-done.seat c.join_worker.new.seat x v.joined e.0.0 e.0.1 e.0.3 j.same j.received.0 j.received.1 j.kept.0 j.kept.3 j.pool.0 j.pool.1 j.long j.others;
    }

pub returns-clause-joined : goal.returns-clause-joined
returns-clause-joined c = let v = c.loop-done.invariant in let t = c.loop-done-test.false in let n = c.len-count.ensures in let left = v.left in
    subst (λ (k : ℕ). HasJoined c.args.self.now k c.loop-done.seat) (let e : c.loop-done.done ≡ length c.args.workers.items = omega arith in e) v.joined
