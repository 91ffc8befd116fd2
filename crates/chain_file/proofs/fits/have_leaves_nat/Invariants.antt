use Rattle.std.proofs.Common.{◌≡◌, ◌++◌, drop, map}
use Rattle.std.specs.List.{list_any}
use Rattle.chain_spec.specs.ChainSet.{is_nat}
use Rattle.chain_types.specs.StageView.{stages_view}
use Rattle.chain_types.specs.BelowView.{leaf_view}
use Rattle.chain_file.proofs.fits.have_leaves_nat.Given as goal

abbrev pub invariant-loop-leaf : goal.invariant-loop-leaf
invariant-loop-leaf l =
    list_any (list_any is_nat) (map (λ x. (stages_view l.stages ++ stages_view l.more) ++ x.stages) (map leaf_view (drop l.leaf-index l.leaves)))
    ≡ list_any (list_any is_nat) (map (λ x. (stages_view l.stages ++ stages_view l.more) ++ x.stages) (map leaf_view l.leaves))
