use Rattle.std.proofs.Common.{sym, arith}
use Rattle.std.proofs.lemmas.Option.{slice_get_read}
use Rattle.lane_table.proofs.tests.start_one.Goals as goal

pub returns-clause-worker : goal.returns-clause-worker
returns-clause-worker g c =
    let h = c.in_ok-lane.ensures.workers 0 c.remove-worker.result (slice_get_read _ _ 0 _ (sym c.in_ok-lane.ensures.count) (omega arith) c.remove-worker.ensures.value) in
    (h.0, record { place = h.1.place; held = h.1.held; took_end = h.1.ended })
