use Rattle.std.specs.Prelude.{option_map}
use Rattle.flow_key.specs.View.{plan_view}
use Rattle.chain_types.specs.GroupView.{group_view}
use Rattle.chain_run.specs.Built.{GroupBuilt}
use Rattle.chain_run.specs.Sound.{IsGroupSound}
use Rattle.chain_run.proofs.Grown.{built_next, all_at}
use Rattle.chain_run.proofs.groups.group_places.Goals as goal

pub build_group-requires : goal.build_group-requires
build_group-requires g c =
    let s = c.args.site.now in
    all_at group_view (IsGroupSound (option_map plan_view s.nat) s.count s.bytes 0) c.args.groups.now c.loop-group.group-index c.group-item.result c.loop-group-test.true c.group-item.is c.requires

pub loop-group-preserved : goal.loop-group-preserved
loop-group-preserved g c =
    let s = c.args.site.now in
    built_next group_view (GroupBuilt g.P.Operator.meaning (option_map plan_view s.nat) s.count s.bytes) c.args.groups.now c.loop-group.places.items c.push.new.self.items c.loop-group.group-index c.group-item.result c.in_ok-place.place c.loop-group-test.true c.group-item.is
    c.loop-group.invariant c.in_ok-push.ensures.items c.in_ok-place.ensures
