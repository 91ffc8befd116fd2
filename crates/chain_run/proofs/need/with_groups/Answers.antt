use Rattle.chain_types.specs.GroupView.{group_view}
use Rattle.chain_run.proofs.Needs.{more_still, next_group}
use Rattle.chain_run.proofs.need.with_groups.Goals as goal

pub loop-group-preserved : goal.loop-group-preserved
loop-group-preserved c =
    let i = c.loop-group.invariant in
    let e = c.with_group-all.ensures in
    let old = c.loop-group.all in
    let new = c.with_group-all.result in
    (more_still c.args.need.count c.args.need.bytes old.count old.bytes new.count new.bytes i.0 e.more, next_group old.count old.bytes new.count new.bytes e.more.0 e.more.1 group_view c.args.groups.now c.loop-group.group-index c.group-item.result c.loop-group-test.true c.group-item.is i.1 e.fits)
