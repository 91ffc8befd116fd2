use Rattle.std.proofs.Common.{◌∙◌, map}
use Rattle.std.specs.Prelude.{option_map}
use Rattle.flow_key.specs.View.{plan_view}
use Rattle.chain_types.specs.BelowView.{leaf_view}
use Rattle.chain_run.proofs.Leaves.{leaves_built}
use Rattle.chain_run.proofs.below.build_leaves.Goals as goal

pub returns : goal.returns
returns g c =
    let s = c.args.site.now in
    leaves_built g.P.Operator.meaning (option_map plan_view s.nat) s.count s.bytes (map leaf_view c.args.leaves.now) (record { groups = c.in_ok-groups.groups; places = c.in_ok-places.places }) (c.in_ok-groups.ensures ∙ c.in_ok-matches.ensures) c.in_ok-places.ensures
