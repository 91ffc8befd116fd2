use Rattle.std.proofs.Common.{List, Ok, map, sym, subst}
use Rattle.std.specs.List.{AllByRecursion}
use Rattle.chain_spec.specs.ChainSet.{windows_in}
use Rattle.chain_types.specs.GroupView.{group_view}
use Rattle.chain_types.specs.StageView.{stages_view}
use Rattle.chain_types.specs.View.{chain_view}
use Rattle.chain_types.specs.declared.group.Group.{Group}
use Rattle.chain_types.specs.declared.stage.Stage.{Stage}
use Rattle.tenant_spec.specs.ChainPlan.{before_stages}
use Rattle.chain_run.specs.Built.{IsPath, GroupsBuilt}
use Rattle.chain_run.specs.Sound.{IsGroupSound}
use Rattle.chain_run.proofs.Chains.{root_made}
use Rattle.chain_run.proofs.Ways.{groups_less}
use Rattle.chain_run.proofs.root.build_root.Goals as goal

pub build_groups-requires-clause-sound : goal.build_groups-requires-clause-sound
build_groups-requires-clause-sound g c =
    let v = chain_view c.args.chain.now in
    subst (λ (gs : List Group). AllByRecursion (IsGroupSound v.nat c.args.count c.args.bytes 0) (map group_view gs)) (sym c.as_slice-2.ensures.value)
    (groups_less v.nat c.args.count c.args.bytes (windows_in v.stages) v.groups c.requires.1)

pub returns : goal.returns
returns g c =
    let e = c.in_ok-place.ensures in
    let v = chain_view c.args.chain.now in
    root_made g.P.Operator.meaning c.args.count c.args.bytes v c.in_ok-path.path c.in_ok-next.next (Ok c.in_ok-place.place) c.requires
    (subst (λ (ss : List Stage). IsPath g.P.Operator.meaning v.nat c.args.count c.args.bytes (before_stages v.unparsed) (stages_view ss) c.in_ok-path.path) c.as_slice.ensures.value c.in_ok-path.ensures)
    (subst (λ (gs : List Group). GroupsBuilt g.P.Operator.meaning v.nat c.args.count c.args.bytes (map group_view gs) c.in_ok-next.next) c.as_slice-2.ensures.value c.in_ok-next.ensures)
    e.path e.next e.none_waits e.has_room
