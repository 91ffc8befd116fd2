use Rattle.std.proofs.Common.{length, get_or, sym, ap, ◌∙◌, arith}
use Rattle.std.proofs.lemmas.Option.{slice_get_read}
use Rattle.lane_queue.proofs.Turns.{new_sent, first_left}
use Rattle.lane_cases.proofs.steps.run_script.Goals as goal

pub all_steps-requires-clause-own : goal.all_steps-requires-clause-own
all_steps-requires-clause-own g c κs within =
    let first = c.in_ok-lane.ensures.workers 0 c.remove-first.result (first_left _ _ c.in_ok-lane.ensures.count (c.remove-first.ensures.value ∙ ap (λ l. get_or l 0 c.remove-first.result) c.remove-second.ensures.items)) in
    let second = c.in_ok-lane.ensures.workers 1 c.remove-second.result (slice_get_read _ _ 1 _ (sym c.in_ok-lane.ensures.count) (omega arith) c.remove-second.ensures.value) in
    (c.in_ok-lane.ensures.ingest.0, first.0, second.0)

pub all_steps-requires-clause-start : goal.all_steps-requires-clause-start
all_steps-requires-clause-start g c κs within = let new = c.in_ok-lane.ensures.ingest.1 in
    let first = c.in_ok-lane.ensures.workers 0 c.remove-first.result (first_left _ _ c.in_ok-lane.ensures.count (c.remove-first.ensures.value ∙ ap (λ l. get_or l 0 c.remove-first.result) c.remove-second.ensures.items)) in
    let second = c.in_ok-lane.ensures.workers 1 c.remove-second.result (slice_get_read _ _ 1 _ (sym c.in_ok-lane.ensures.count) (omega arith) c.remove-second.ensures.value) in (
      record { sent = new_sent _ _ new; two = ap (λ logs. length logs) new.sent },
      record { place = first.1.place; held = first.1.held; took_end = first.1.ended },
      record { place = second.1.place; held = second.1.held; took_end = second.1.ended },
    )
