use Rattle.std.proofs.Common.{◌+◌, List, [], Ok, subst}
use Rattle.std.specs.Prelude.{option_map}
use Rattle.chain_types.specs.StageView.{stages_view}
use Rattle.chain_types.specs.declared.stage.Stage.{Stage}
use Rattle.chain_run.specs.Built.{IsPath}
use Rattle.flow_key.specs.View.{plan_view}
use Rattle.chain_types.specs.GroupView.{group_view}
use Rattle.chain_spec.specs.ChainSet.{windows_in}
use Rattle.chain_run.proofs.Chains.{group_made}
use Rattle.chain_run.proofs.Ways.{below_less}
use Rattle.chain_run.proofs.groups.build_group.Goals as goal

pub build_below-requires : goal.build_below-requires
build_below-requires g c =
    let s = c.args.site.now in
    let v = group_view c.args.group.now in
    below_less (option_map plan_view s.nat) s.count s.bytes (0 + windows_in v.stages) v.below c.requires.1

pub returns : goal.returns
returns g c =
    let s = c.args.site.now in
    let e = c.in_ok-staged.ensures in
    group_made g.P.Operator.meaning (option_map plan_view s.nat) s.count s.bytes (group_view c.args.group.now) c.in_ok-path.path c.in_ok-next.next (Ok c.in_ok-staged.staged) c.requires (subst (λ (ss : List Stage). IsPath g.P.Operator.meaning (option_map plan_view s.nat) s.count s.bytes [] (stages_view ss) c.in_ok-path.path) c.as_slice.ensures.value c.in_ok-path.ensures) c.in_ok-next.ensures e.path e.next e.none_waits e.has_room
