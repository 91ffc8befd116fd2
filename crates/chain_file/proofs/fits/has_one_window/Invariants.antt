use Rattle.std.proofs.Common.{◌≡◌, drop, map, nat_le}
use Rattle.std.specs.List.{list_all}
use Rattle.chain_spec.specs.ChainSet.{windows_in, paths_through}
use Rattle.chain_types.specs.StageView.{stages_view}
use Rattle.chain_types.specs.GroupView.{group_view}
use Rattle.chain_file.proofs.fits.has_one_window.Given as goal

abbrev pub invariant-loop-group : goal.invariant-loop-group
invariant-loop-group l =
    list_all (λ path. nat_le (windows_in path) 1) (paths_through (stages_view l.stages) (map group_view (drop l.group-index l.groups)))
    ≡ list_all (λ path. nat_le (windows_in path) 1) (paths_through (stages_view l.stages) (map group_view l.groups))
