use Rattle.std.proofs.Common.{◌≡◌, [], drop, map, vec_len}
use Rattle.std.specs.Prelude.{IsTrue}
use Rattle.chain_spec.specs.ChainSet.{are_distinct}
use Rattle.stage_text.specs.Names.{backend_names}
use Rattle.toml.specs.View.{items_view}
use Rattle.chain_spec.specs.Fields.{each_after}
use Rattle.chain_spec.specs.StageWalk.{backend_at}
use Rattle.chain_types.specs.StageView.{backend_view, backends_view}
use Rattle.stage_text.proofs.backends.backends.Given as goal

abbrev pub invariant-loop-value : goal.invariant-loop-value
invariant-loop-value l = record {
  all : each_after (backend_at l.place) (backends_view l.backends.items) (items_view (drop l.value-index l.value-items)) ≡ each_after (backend_at l.place) [] (items_view l.value-items);
  count : vec_len l.backends ≡ l.value-index;
  distinct : IsTrue (are_distinct (backend_names l.backends.items));
}
