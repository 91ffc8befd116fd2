use Rattle.std.proofs.Common.{◌≡◌, [], drop, map, vec_len}
use Rattle.std.specs.Prelude.{IsTrue}
use Rattle.std.specs.List.{list_all}
use Rattle.chain_spec.specs.ChainSet.{are_rising, are_backends_right}
use Rattle.toml.specs.View.{items_view}
use Rattle.chain_spec.specs.Fields.{each_after}
use Rattle.chain_spec.specs.StageWalk.{epoch_at}
use Rattle.chain_types.specs.StageView.{change_view}
use Rattle.stage_text.proofs.epochs.epochs.Given as goal

abbrev pub invariant-loop-value : goal.invariant-loop-value
invariant-loop-value l = record {
  all : each_after (epoch_at l.place) (map change_view l.epochs.items) (items_view (drop l.value-index l.value-items)) ≡ each_after (epoch_at l.place) [] (items_view l.value-items);
  count : vec_len l.epochs ≡ l.value-index;
  rising : IsTrue (are_rising 0 (map change_view l.epochs.items));
  right : IsTrue (list_all (λ c. are_backends_right c.backends) (map change_view l.epochs.items));
}
