use Rattle.std.proofs.Common.{take, map}
use Rattle.std.specs.Prelude.{option_map}
use Rattle.flow_key.specs.View.{plan_view}
use Rattle.chain_types.specs.GroupView.{group_view}
use Rattle.chain_run.specs.Built.{AreBuilt, GroupBuilt}
use Rattle.chain_run.proofs.groups.group_places.Given as goal

abbrev pub invariant-loop-group : goal.invariant-loop-group
invariant-loop-group g l = AreBuilt (GroupBuilt g.P.Operator.meaning (option_map plan_view l.site.nat) l.site.count l.site.bytes) (map group_view (take l.group-index l.groups)) l.places.items
