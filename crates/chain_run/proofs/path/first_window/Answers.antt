use Rattle.std.proofs.Common.{◌∙◌, sym}
use Rattle.chain_types.specs.StageView.{stage_view}
use Rattle.chain_run.proofs.Cuts.{none_yet, found_here}
use Rattle.chain_run.proofs.path.first_window.Goals as goal

pub returns-then-is_window-clause-some : goal.returns-then-is_window-clause-some
returns-then-is_window-clause-some c =
    let f = found_here stage_view c.args.stages.now c.loop-at.at c.index-stages-at.result c.loop-at-test.true c.index-stages-at.is c.loop-at.invariant (sym c.is_window.ensures ∙ c.if-is_window.true) in
    (c.loop-at-test.true, f)

pub loop-at-preserved : goal.loop-at-preserved
loop-at-preserved c = none_yet stage_view c.args.stages.now c.loop-at.at c.index-stages-at.result c.loop-at-test.true c.index-stages-at.is c.loop-at.invariant (sym c.is_window.ensures ∙ c.if-is_window.false)
