use Rattle.std.proofs.Common.{List, [], subst}
use Rattle.std.specs.Prelude.{option_map}
use Rattle.chain_types.specs.StageView.{stages_view}
use Rattle.chain_types.specs.declared.stage.Stage.{Stage}
use Rattle.chain_run.specs.Built.{IsPath}
use Rattle.flow_key.specs.View.{plan_view}
use Rattle.chain_types.specs.BelowView.{leaf_view}
use Rattle.chain_run.proofs.Leaves.{leaf_made}
use Rattle.chain_run.proofs.below.build_leaf.Goals as goal

pub returns : goal.returns
returns g c =
    let s = c.args.site.now in
    let e = c.new-2.ensures in
    leaf_made g.P.Operator.meaning (option_map plan_view s.nat) s.count s.bytes (leaf_view c.args.leaf.now) c.in_ok-path.path c.new.result c.new-2.result (subst (λ (ss : List Stage). IsPath g.P.Operator.meaning (option_map plan_view s.nat) s.count s.bytes [] (stages_view ss) c.in_ok-path.path) c.as_slice.ensures.value c.in_ok-path.ensures) c.new.ensures e.path e.next e.none_waits e.has_room
