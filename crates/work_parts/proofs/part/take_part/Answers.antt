use Rattle.work_parts.proofs.Works.{part_given, part_works}
use Rattle.work_parts.proofs.part.take_part.Goals as goal

pub returns-clause-part : goal.returns-clause-part
returns-clause-part g c =
    let w = g.W.ChainWork in
    part_given w.follows w.stands w.finished w.ended w.broken w.answer c.args.records c.args.work c.end_work-work.result c.end_work-work.ensures c.take_results.result c.take_results.ensures.answer c.take_results.ensures.failed

pub returns-clause-works : goal.returns-clause-works
returns-clause-works g c =
    let w = g.W.ChainWork in
    part_works w.follows w.stands w.finished w.ended w.broken w.answer c.args.records c.args.work c.end_work-work.result c.end_work-work.ensures c.take_results.result c.take_results.ensures.failed
