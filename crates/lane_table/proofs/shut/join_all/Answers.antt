use Rattle.std.proofs.Common.{◌≡◌, ℕ, ◌+◌, List, [], ◌∷◌, ◌++◌, length, sym, ap, ◌∙◌, subst, arith, append_assoc}
use Rattle.std.specs.List.{remove}
use mathlib.Core.List.{map-append}
use Rattle.lane_spec.specs.Pairs.{Pair}
use Rattle.lane_core.specs.Log.{LogModel}
use Rattle.lane_core.specs.View.{pairs_in}
use Rattle.lane_table.specs.declared.lane.WorkerSeat.{WorkerSeat}
use Rattle.lane_table.specs.declared.view.SeatView.{SeatView}
use Rattle.lane_table.specs.Ends.{AreEndedFrom, HasJoined, logs_of}
use Rattle.lane_table.proofs.Ends.{front_is, has_joined}
use Rattle.lane_table.proofs.Joins.{joins}
use Rattle.lane_table.proofs.shut.join_all.Goals as goal

pub join_seat-requires : goal.join_seat-requires
join_seat-requires c = let v = c.loop-done.invariant in let x : WorkerSeat = c.remove-worker.result in let lt = c.loop-done-test.true in let n = c.len-count.ensures in let left = v.left in
    let items = front_is c.loop-done.workers.items x (omega arith) c.remove-worker.ensures.value in let e = subst (AreEndedFrom c.args.table.now.shared.table_id c.loop-done.done) items v.ended in (
      v.table,
      e.0.0,
      x.rest.0,
      c.requires.table.0,
      joins _ _ _ _ _ v.joined.found (let a = x.counts.0 in let b = x.counts.1 in omega arith) x.rest.1 v.joined.ingest v.joined.held (sym x.list ∙ e.0.3),
    )

pub loop-done-preserved : goal.loop-done-preserved
loop-done-preserved c = let v = c.loop-done.invariant in let x : WorkerSeat = c.remove-worker.result in let lt = c.loop-done-test.true in let n = c.len-count.ensures in let left = v.left in let id = c.args.table.now.shared.table_id in
    let items = front_is c.loop-done.workers.items x (omega arith) c.remove-worker.ensures.value in let e = subst (AreEndedFrom id c.loop-done.done) items v.ended in
    let more : List WorkerSeat = remove c.loop-done.workers.items 0 in let rm : c.remove-worker.new.self.items ≡ more = c.remove-worker.ensures.items in let old : List LogModel = c.loop-done.received.items in
    let logs : pairs_in c.add_log.new.logs.items ≡ pairs_in old ++ x.received.pairs ∷ [] = ap pairs_in c.add_log.ensures.items ∙ map-append (λ (l : LogModel). l.pairs) old (x.received ∷ []) in
    let view = ap (λ m. m.0) c.join_seat.ensures.2 in let w : ℕ = length c.args.workers.items in let sent : List (List Pair) = c.args.all.now.me.0.sent in record {
      table = c.join_seat.ensures.0 ∙ v.table;
      left = let a = ap (λ (l : List WorkerSeat). length l) items in let b = ap (λ (l : List WorkerSeat). length l) rm in omega arith;
      ended = subst (AreEndedFrom id (c.loop-done.done + 1)) (sym rm) e.1;
      logs = (λ k. logs k ++ logs_of (rm k)) ∙ append_assoc (pairs_in old) (x.received.pairs ∷ []) (logs_of more) ∙ ap (λ (l : List WorkerSeat). pairs_in old ++ logs_of l) (sym items) ∙ v.logs;
      room = let a = v.room in let b = c.add_log.ensures.room in omega arith;
      joined = subst (λ (t : List (List Pair) × SeatView). HasJoined w (c.loop-done.done + 1) sent t.0 t.1) (λ k. (sym logs k, sym view k)) (has_joined w c.loop-done.done sent (pairs_in old) c.loop-done.all.me.0 x v.joined e.0.1 e.0.2 e.0.3 (omega arith));
    }
