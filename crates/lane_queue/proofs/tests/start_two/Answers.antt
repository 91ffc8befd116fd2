use Rattle.std.proofs.Common.{sym, ap, ◌∙◌, arith, get_or}
use Rattle.std.proofs.lemmas.Option.{slice_get_read}
use Rattle.lane_queue.proofs.Turns.{new_sent, first_left}
use Rattle.lane_queue.proofs.tests.start_two.Goals as goal

pub returns-clause-ingest : goal.returns-clause-ingest
returns-clause-ingest g c = let e = c.in_ok-lane.ensures.ingest in (e.0, new_sent _ _ e.1)

pub returns-clause-first : goal.returns-clause-first
returns-clause-first g c =
    let h = c.in_ok-lane.ensures.workers 0 c.remove-first.result (first_left _ _ c.in_ok-lane.ensures.count (c.remove-first.ensures.value ∙ ap (λ l. get_or l 0 c.remove-first.result) c.remove-second.ensures.items)) in
    (h.0, record { place = h.1.place; held = h.1.held; took_end = h.1.ended })

pub returns-clause-second : goal.returns-clause-second
returns-clause-second g c =
    let h = c.in_ok-lane.ensures.workers 1 c.remove-second.result (slice_get_read _ _ 1 _ (sym c.in_ok-lane.ensures.count) (omega arith) c.remove-second.ensures.value) in
    (h.0, record { place = h.1.place; held = h.1.held; took_end = h.1.ended })
