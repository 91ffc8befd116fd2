use Rattle.std.proofs.Common.{List, subst}
use Rattle.chain_types.specs.StageView.{stages_view}
use Rattle.chain_types.specs.declared.stage.Stage.{Stage}
use Rattle.chain_run.specs.Sound.{WindowsFit}
use Rattle.chain_run.proofs.Needs.{more_still, windows_grow}
use Rattle.chain_run.proofs.need.with_group.Goals as goal

pub returns-clause-more : goal.returns-clause-more
returns-clause-more c =
    let old = c.args.need in
    let mid = c.with_stages-own.result in
    let new = c.with_below.result in
    more_still old.count old.bytes mid.count mid.bytes new.count new.bytes c.with_stages-own.ensures.more c.with_below.ensures.more

pub returns-clause-fits : goal.returns-clause-fits
returns-clause-fits c =
    let mid = c.with_stages-own.result in
    let new = c.with_below.result in
    let m = c.with_below.ensures.more in
    (windows_grow mid.count mid.bytes new.count new.bytes m.0 m.1 (stages_view c.args.group.now.stages.items) (subst (λ (ss : List Stage). WindowsFit mid.count mid.bytes (stages_view ss)) c.as_slice.ensures.value c.with_stages-own.ensures.fit), c.with_below.ensures.fits)
