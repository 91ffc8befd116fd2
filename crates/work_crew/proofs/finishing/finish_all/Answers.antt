use Rattle.std.proofs.Common.{◌≡◌, map, ap, ◌++◌, ◌∙◌}
use Rattle.std.specs.Prelude.{Ok}
use Rattle.work_crew.proofs.Setting.{all_of_each}
use Rattle.work_crew.proofs.JobEnds.{can_end, done_many, all_ended}
use Rattle.work_crew.proofs.finishing.finish_all.Goals as goal

pub end_all-requires-clause-ready : goal.end_all-requires-clause-ready
end_all-requires-clause-ready g c κs within =
    all_of_each _ _ (can_end g.W.ChainWork.follows g.W.ChainWork.ready g.W.ChainWork.stands g.W.ChainWork.ended g.W.ChainWork.broken c.args.workers c.requires.some c.args.jobs.now c.args.lanes.items c.requires.few c.requires.lanes
    c.number_all.new.ends.items c.number_all.ensures.placed)

pub returns-clause-count : goal.returns-clause-count
returns-clause-count g c =
    done_many g.W.ChainWork.answer c.args.workers c.args.jobs.now c.args.lanes.items c.number_all.new.ends.items c.number_all.ensures.placed c.in_ok-outcomes.outcomes.items c.in_ok-outcomes.ensures.ended
    c.push_values.new.values.items (c.in_ok-push_values.ensures ∙ ap (λ l. map Ok l ++ c.in_ok-outcomes.outcomes.items) c.new-done.ensures.items) c.in_ok-outcomes.ensures.count

pub returns-clause-done : goal.returns-clause-done
returns-clause-done g c =
    all_ended g.W.ChainWork.answer c.args.workers c.args.jobs.now c.args.lanes.items c.number_all.new.ends.items c.number_all.ensures.placed c.in_ok-outcomes.outcomes.items c.in_ok-outcomes.ensures.ended
    c.push_values.new.values.items (c.in_ok-push_values.ensures ∙ ap (λ l. map Ok l ++ c.in_ok-outcomes.outcomes.items) c.new-done.ensures.items)
