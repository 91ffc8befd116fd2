use Rattle.std.proofs.Common.{◌≡◌, [], drop, map, vec_len}
use Rattle.lpm_fw.specs.Scan.{AreShort}
use Rattle.toml.specs.View.{items_view}
use Rattle.chain_spec.specs.Fields.{each_after}
use Rattle.chain_spec.specs.StageWalk.{route_at}
use Rattle.lpm_fw.specs.RouteView.{route_view}
use Rattle.stage_text.proofs.routes.rows.Given as goal

abbrev pub invariant-loop-value : goal.invariant-loop-value
invariant-loop-value l = record {
  all : each_after (route_at l.place) (map route_view l.rows.items) (items_view (drop l.value-index l.value-items)) ≡ each_after (route_at l.place) [] (items_view l.value-items);
  count : vec_len l.rows ≡ l.value-index;
  short : AreShort l.rows.items;
}
