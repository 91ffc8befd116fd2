-- Groups in groups of the code as those of the definitions.
use Rattle.std.specs.Prelude.{map, option_map}
use Rattle.chain_spec.specs.ChainSet as spec
use Rattle.tcp_udp.specs.MatchView.{match_view}
use Rattle.chain_types.specs.StageView.{stages_view}
use Rattle.chain_types.specs.declared.leaf.Leaf.{Leaf}
use Rattle.chain_types.specs.declared.leaf.Below.{Below}
use Rattle.chain_types.specs.declared.leaf.Below.TheVariants as below

abbrev pub leaf_view : Leaf → spec.Leaf
leaf_view l = record {
  name = l.name;
  wanted = option_map match_view l.wanted;
  stages = stages_view l.stages.items;
  output = l.output;
}

abbrev pub below_view : Below → spec.Below
below_view (below.Output output) = spec.Output output
below_view (below.Inner leaves) = spec.Inner (map leaf_view leaves.items)
