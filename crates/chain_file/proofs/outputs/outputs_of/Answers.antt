use Rattle.std.proofs.Common.{◌≡◌, ◌∙◌, ap, sym}
use Rattle.chain_file.proofs.Names.{outputs_step}
use Rattle.chain_file.proofs.outputs.outputs_of.Goals as goal

pub loop-group-preserved : goal.loop-group-preserved
loop-group-preserved c =
    outputs_step c.loop-group.outputs.items c.add_below.new.names.items c.args.groups.now c.loop-group.group-index c.group-item.result _
    c.loop-group-test.true c.group-item.is c.in_ok-add_below.ensures c.loop-group.invariant
