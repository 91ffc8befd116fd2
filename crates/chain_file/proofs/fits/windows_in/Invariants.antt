use Rattle.std.proofs.Common.{◌≡◌, ◌≤◌, ◌+◌, drop}
use Rattle.chain_spec.specs.ChainSet.{windows_in}
use Rattle.chain_types.specs.StageView.{stages_view}
use Rattle.chain_file.proofs.fits.windows_in.Given as goal

abbrev pub invariant-loop-stage : goal.invariant-loop-stage
invariant-loop-stage l = (l.windows + windows_in (stages_view (drop l.stage-index l.stages)) ≡ windows_in (stages_view l.stages)) × (l.windows ≤ l.stage-index)
