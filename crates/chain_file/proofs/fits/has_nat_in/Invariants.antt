use Rattle.std.proofs.Common.{◌≡◌, drop}
use Rattle.std.specs.List.{list_any}
use Rattle.chain_spec.specs.ChainSet.{is_nat}
use Rattle.chain_types.specs.StageView.{stages_view}
use Rattle.chain_file.proofs.fits.has_nat_in.Given as goal

abbrev pub invariant-loop-stage : goal.invariant-loop-stage
invariant-loop-stage l = list_any is_nat (stages_view (drop l.stage-index l.stages)) ≡ list_any is_nat (stages_view l.stages)
