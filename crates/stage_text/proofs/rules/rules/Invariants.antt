use Rattle.std.proofs.Common.{◌≡◌, [], drop, map, vec_len}
use Rattle.toml.specs.View.{items_view}
use Rattle.chain_spec.specs.Fields.{each_after}
use Rattle.chain_spec.specs.StageWalk.{rule_at}
use Rattle.lpm_fw.specs.RuleView.{rule_view}
use Rattle.stage_text.proofs.rules.rules.Given as goal

abbrev pub invariant-loop-value : goal.invariant-loop-value
invariant-loop-value l = record {
  all : each_after (rule_at l.place) (map rule_view l.rules.items) (items_view (drop l.value-index l.value-items)) ≡ each_after (rule_at l.place) [] (items_view l.value-items);
  count : vec_len l.rules ≡ l.value-index;
}
