-- Groups in groups as a chain file has them, in the words of the definitions.
use Rattle.std.specs.Prelude.{ℕ, List, map, option_map}
use Rattle.chain_spec.specs.ChainSet as spec
use Rattle.tcp_udp.specs.MatchView.{match_view}
use Rattle.chain_types.specs.StageView.{stages_view}
use Rattle.chain_file.specs.declared.named_leaf.NamedLeaf.{NamedLeaf}
use Rattle.chain_file.specs.declared.named_leaf.NamedBelow.{NamedBelow}
use Rattle.chain_file.specs.declared.named_leaf.NamedBelow.TheVariants as below

abbrev pub named_leaf_view : NamedLeaf → spec.NamedLeaf
named_leaf_view l = record {
  name = l.name;
  wanted = option_map match_view l.wanted;
  stages = stages_view l.stages.items;
  into = l.into;
}

abbrev pub named_leaves_view : List NamedLeaf → List spec.NamedLeaf
named_leaves_view = map named_leaf_view

abbrev pub named_below_view : NamedBelow → spec.NamedBelow
named_below_view (below.Into name) = spec.Into name
named_below_view (below.Within leaves) = spec.Within (named_leaves_view leaves.items)

abbrev pub leaf_names : List NamedLeaf → List (List ℕ)
leaf_names leaves = map (λ l. l.name) (named_leaves_view leaves)
