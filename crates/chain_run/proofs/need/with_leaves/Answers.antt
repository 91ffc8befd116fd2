use Rattle.std.proofs.Common.{List, subst}
use Rattle.chain_types.specs.StageView.{stages_view}
use Rattle.chain_types.specs.BelowView.{leaf_view}
use Rattle.chain_types.specs.declared.stage.Stage.{Stage}
use Rattle.chain_run.specs.Sound.{WindowsFit}
use Rattle.chain_run.proofs.Needs.{more_still, next_leaf}
use Rattle.chain_run.proofs.need.with_leaves.Goals as goal

pub loop-leaf-preserved : goal.loop-leaf-preserved
loop-leaf-preserved c =
    let i = c.loop-leaf.invariant in
    let e = c.with_stages-all.ensures in
    let old = c.loop-leaf.all in
    let new = c.with_stages-all.result in (
      more_still c.args.need.count c.args.need.bytes old.count old.bytes new.count new.bytes i.0 e.more,
      next_leaf old.count old.bytes new.count new.bytes e.more.0 e.more.1 leaf_view c.args.leaves.now c.loop-leaf.leaf-index c.leaf-item.result c.loop-leaf-test.true c.leaf-item.is i.1
          (subst (λ (ss : List Stage). WindowsFit new.count new.bytes (stages_view ss)) c.as_slice.ensures.value e.fit),
    )
