use Rattle.std.proofs.Common.{◌≡◌, ◌++◌, drop, map, nat_le}
use Rattle.std.specs.List.{list_all}
use Rattle.chain_spec.specs.ChainSet.{windows_in}
use Rattle.chain_types.specs.StageView.{stages_view}
use Rattle.chain_types.specs.BelowView.{leaf_view}
use Rattle.chain_file.proofs.fits.have_leaves_one_window.Given as goal

abbrev pub invariant-loop-leaf : goal.invariant-loop-leaf
invariant-loop-leaf l =
    list_all (λ path. nat_le (windows_in path) 1) (map (λ x. (stages_view l.stages ++ stages_view l.more) ++ x.stages) (map leaf_view (drop l.leaf-index l.leaves)))
    ≡ list_all (λ path. nat_le (windows_in path) 1) (map (λ x. (stages_view l.stages ++ stages_view l.more) ++ x.stages) (map leaf_view l.leaves))
