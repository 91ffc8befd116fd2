use Rattle.std.proofs.Common.{◌≡◌, ◌∙◌, ◌≤◌, ◌+◌, ap, sym, arith}
use Rattle.chain_spec.specs.ChainSet.{is_window, windows_in}
use Rattle.chain_types.specs.StageView.{stages_view}
use Rattle.chain_file.proofs.Paths.{window_done}
use Rattle.chain_file.proofs.fits.windows_in.Goals as goal

pub loop-stage-preserved : goal.loop-stage-preserved
loop-stage-preserved c = window_done c.args.stages.now c.loop-stage.stage-index c.stage-item.result c.loop-stage.windows c.with_window-windows.result _
    c.loop-stage-test.true c.stage-item.is c.with_window-windows.ensures c.loop-stage.invariant
