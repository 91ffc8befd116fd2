use Rattle.std.proofs.Common.{◌≡◌, take}
use Rattle.chain_spec.specs.ChainSet.{windows_in}
use Rattle.chain_types.specs.StageView.{stages_view}
use Rattle.chain_run.proofs.path.first_window.Given as goal

abbrev pub invariant-loop-at : goal.invariant-loop-at
invariant-loop-at l = windows_in (take l.at (stages_view l.stages)) ≡ 0
