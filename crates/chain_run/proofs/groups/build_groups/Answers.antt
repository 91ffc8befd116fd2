use Rattle.std.proofs.Common.{◌∙◌, map}
use Rattle.std.specs.Prelude.{option_map}
use Rattle.flow_key.specs.View.{plan_view}
use Rattle.chain_types.specs.GroupView.{group_view}
use Rattle.chain_run.proofs.Chains.{groups_built}
use Rattle.chain_run.proofs.groups.build_groups.Goals as goal

pub returns : goal.returns
returns g c =
    let s = c.args.site.now in
    groups_built g.P.Operator.meaning (option_map plan_view s.nat) s.count s.bytes (map group_view c.args.groups.now) (record { groups = c.in_ok-matches-2.matches; places = c.in_ok-places.places }) (c.in_ok-matches-2.ensures ∙ c.in_ok-matches.ensures) c.in_ok-places.ensures
