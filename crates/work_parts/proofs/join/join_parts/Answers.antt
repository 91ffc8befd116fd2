use Rattle.work_parts.specs.Wholes.{IsMergedOf}
use Rattle.work_parts.specs.Works.{GivesMerged}
use Rattle.work_parts.proofs.Works.{if_ok, gives_merged, none_is}
use Rattle.work_parts.proofs.join.join_parts.Goals as goal

pub returns-clause-merged : goal.returns-clause-merged
returns-clause-merged g c =
    let w = g.W.ChainWork in
    if_ok c.merge_parts.result (IsMergedOf c.in_ok-parts.parts.items) (GivesMerged w.follows w.stands w.answer c.args.records c.args.works.items)
    (λ r h. gives_merged w.follows w.stands w.answer c.args.records c.answers_have_lists.ensures c.args.works.items c.in_ok-parts.parts.items r c.requires.some c.in_ok-parts.ensures.parts h) c.merge_parts.ensures

pub returns-clause-failed : goal.returns-clause-failed
returns-clause-failed g c = λ broken. absurd (none_is g.W.ChainWork.broken c.args.works.items c.in_ok-parts.ensures.works broken)
