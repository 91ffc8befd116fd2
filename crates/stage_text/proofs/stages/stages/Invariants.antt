use Rattle.std.proofs.Common.{◌≡◌, [], drop, map, vec_len}
use Rattle.std.specs.Prelude.{IsTrue}
use Rattle.std.specs.List.{list_all}
use Rattle.chain_spec.specs.ChainSet.{is_stage_right}
use Rattle.toml.specs.View.{items_view}
use Rattle.chain_spec.specs.Fields.{each_after}
use Rattle.chain_spec.specs.StageWalk.{stage_at}
use Rattle.chain_types.specs.StageView.{stage_view, stages_view}
use Rattle.stage_text.proofs.stages.stages.Given as goal

abbrev pub invariant-loop-value : goal.invariant-loop-value
invariant-loop-value l = record {
  all : each_after (stage_at l.place) (stages_view l.stages.items) (items_view (drop l.value-index l.value-items)) ≡ each_after (stage_at l.place) [] (items_view l.value-items);
  count : vec_len l.stages ≡ l.value-index;
  right : IsTrue (list_all is_stage_right (stages_view l.stages.items));
}
