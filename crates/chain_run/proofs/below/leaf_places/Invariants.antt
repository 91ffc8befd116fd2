use Rattle.std.proofs.Common.{take, map}
use Rattle.std.specs.Prelude.{option_map}
use Rattle.flow_key.specs.View.{plan_view}
use Rattle.chain_types.specs.BelowView.{leaf_view}
use Rattle.chain_run.specs.Built.{AreBuilt, LeafBuilt}
use Rattle.chain_run.proofs.below.leaf_places.Given as goal

abbrev pub invariant-loop-leaf : goal.invariant-loop-leaf
invariant-loop-leaf g l = AreBuilt (LeafBuilt g.P.Operator.meaning (option_map plan_view l.site.nat) l.site.count l.site.bytes) (map leaf_view (take l.leaf-index l.leaves)) l.places.items
