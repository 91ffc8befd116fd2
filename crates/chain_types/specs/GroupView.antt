-- Groups of the code as those of the definitions.
use Rattle.std.specs.Prelude.{List, map, Option, option_map}
use Rattle.chain_spec.specs.ChainSet as spec
use Rattle.tcp_udp.specs.MatchView.{match_view}
use Rattle.chain_types.specs.StageView.{stages_view}
use Rattle.chain_types.specs.BelowView.{below_view}
use Rattle.chain_types.specs.declared.group.Group.{Group}

abbrev pub group_view : Group → spec.Group
group_view g = record {
  name = g.name;
  wanted = option_map match_view g.wanted;
  stages = stages_view g.stages.items;
  below = below_view g.below;
}
