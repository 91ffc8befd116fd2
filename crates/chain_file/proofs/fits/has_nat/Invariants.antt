use Rattle.std.proofs.Common.{◌≡◌, drop, map}
use Rattle.std.specs.List.{list_any}
use Rattle.chain_spec.specs.ChainSet.{is_nat, paths_through}
use Rattle.chain_types.specs.StageView.{stages_view}
use Rattle.chain_types.specs.GroupView.{group_view}
use Rattle.chain_file.proofs.fits.has_nat.Given as goal

abbrev pub invariant-loop-group : goal.invariant-loop-group
invariant-loop-group l =
    list_any (list_any is_nat) (paths_through (stages_view l.stages) (map group_view (drop l.group-index l.groups)))
    ≡ list_any (list_any is_nat) (paths_through (stages_view l.stages) (map group_view l.groups))
