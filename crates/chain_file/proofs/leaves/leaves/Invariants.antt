use Rattle.std.proofs.Common.{◌≡◌, [], drop, map, vec_len}
use Rattle.std.specs.Prelude.{IsTrue}
use Rattle.toml.specs.View.{items_view}
use Rattle.chain_spec.specs.ChainSet.{are_distinct}
use Rattle.chain_spec.specs.Fields.{each_after}
use Rattle.chain_spec.specs.ChainWalk.{leaf_at}
use Rattle.chain_file.specs.NamedView.{named_leaf_view, named_leaves_view, leaf_names}
use Rattle.chain_file.proofs.leaves.leaves.Given as goal

abbrev pub invariant-loop-value : goal.invariant-loop-value
invariant-loop-value l = record {
  all : each_after (leaf_at l.place) (named_leaves_view l.leaves.items) (items_view (drop l.value-index l.value-items)) ≡ each_after (leaf_at l.place) [] (items_view l.value-items);
  count : vec_len l.leaves ≡ l.value-index;
  distinct : IsTrue (are_distinct (leaf_names l.leaves.items));
}
