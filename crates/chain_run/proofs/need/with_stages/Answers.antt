use Rattle.chain_types.specs.StageView.{stage_view}
use Rattle.chain_run.proofs.Needs.{more_still, next_window, right_at}
use Rattle.chain_run.proofs.need.with_stages.Goals as goal

pub with_stage-all-requires-clause-right : goal.with_stage-all-requires-clause-right
with_stage-all-requires-clause-right c = right_at stage_view c.args.stages.now c.loop-stage.stage-index c.stage-item.result c.loop-stage-test.true c.stage-item.is c.requires.right

pub loop-stage-preserved : goal.loop-stage-preserved
loop-stage-preserved c =
    let i = c.loop-stage.invariant in
    let e = c.with_stage-all.ensures in
    let old = c.loop-stage.all in
    let new = c.with_stage-all.result in
    (more_still c.args.need.count c.args.need.bytes old.count old.bytes new.count new.bytes i.0 e.more, next_window old.count old.bytes new.count new.bytes e.more.0 e.more.1 stage_view c.args.stages.now c.loop-stage.stage-index c.stage-item.result c.loop-stage-test.true c.stage-item.is i.1 e.fits)
