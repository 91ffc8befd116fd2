use Rattle.std.specs.Prelude.{option_map}
use Rattle.flow_key.specs.View.{plan_view}
use Rattle.chain_types.specs.BelowView.{leaf_view}
use Rattle.chain_run.specs.Built.{LeafBuilt}
use Rattle.chain_run.specs.Sound.{IsLeafSound}
use Rattle.chain_run.proofs.Grown.{built_next, all_at}
use Rattle.chain_run.proofs.below.leaf_places.Goals as goal

pub build_leaf-requires : goal.build_leaf-requires
build_leaf-requires g c =
    let s = c.args.site.now in
    all_at leaf_view (IsLeafSound (option_map plan_view s.nat) s.count s.bytes 0) c.args.leaves.now c.loop-leaf.leaf-index c.leaf-item.result c.loop-leaf-test.true c.leaf-item.is c.requires

pub loop-leaf-preserved : goal.loop-leaf-preserved
loop-leaf-preserved g c =
    let s = c.args.site.now in
    built_next leaf_view (LeafBuilt g.P.Operator.meaning (option_map plan_view s.nat) s.count s.bytes) c.args.leaves.now c.loop-leaf.places.items c.push.new.self.items c.loop-leaf.leaf-index c.leaf-item.result c.in_ok-place.place c.loop-leaf-test.true c.leaf-item.is
    c.loop-leaf.invariant c.in_ok-push.ensures.items c.in_ok-place.ensures
