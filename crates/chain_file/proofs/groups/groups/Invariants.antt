use Rattle.std.proofs.Common.{◌≡◌, [], drop, map, vec_len}
use Rattle.std.specs.Prelude.{IsTrue}
use Rattle.toml.specs.View.{items_view}
use Rattle.chain_spec.specs.ChainSet.{are_distinct}
use Rattle.chain_spec.specs.Fields.{each_after}
use Rattle.chain_spec.specs.ChainWalk.{group_at}
use Rattle.chain_file.specs.View.{named_view, group_names}
use Rattle.chain_file.proofs.groups.groups.Given as goal

abbrev pub invariant-loop-value : goal.invariant-loop-value
invariant-loop-value l = record {
  all : each_after (group_at l.version l.place) (map named_view l.groups.items) (items_view (drop l.value-index l.value-items)) ≡ each_after (group_at l.version l.place) [] (items_view l.value-items);
  count : vec_len l.groups ≡ l.value-index;
  distinct : IsTrue (are_distinct (group_names l.groups.items));
}
