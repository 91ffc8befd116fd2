-- The stages of the code as those of the definitions.
use Rattle.std.specs.Prelude.{List, map}
use Rattle.std.specs.Arc.{arc_value}
use Rattle.flow_spec.specs.Balancing as balancing
use Rattle.chain_spec.specs.ChainSet as spec
use Rattle.tcp_udp.specs.MatchView.{match_view}
use Rattle.lpm_fw.specs.RouteView.{route_view}
use Rattle.lpm_fw.specs.RuleView.{verdict_view, rule_view}
use Rattle.chain_types.specs.declared.stage.Backend.{Backend}
use Rattle.chain_types.specs.declared.stage.Change.{Change}
use Rattle.chain_types.specs.declared.stage.Stage.{Stage}
use Rattle.chain_types.specs.declared.stage.Stage.TheVariants as stage

abbrev pub backend_view : Backend → balancing.Backend
backend_view b = record { name = b.name; mac = b.mac }

abbrev pub backends_view : List Backend → List balancing.Backend
backends_view = map backend_view

abbrev pub change_view : Change → balancing.Change
change_view c = record { from = c.from; backends = backends_view c.backends.items }

abbrev pub stage_view : Stage → spec.Stage
stage_view stage.Ttl = spec.Ttl
stage_view (stage.SetTos value) = spec.SetTos value
stage_view (stage.Only wanted) = spec.Only (match_view wanted)
stage_view (stage.Firewall default established rules) =
    spec.Firewall (verdict_view default) established (map rule_view rules.items)
stage_view (stage.Route mac routes) = spec.Route mac (map route_view (arc_value routes))
stage_view stage.Nat = spec.Nat
stage_view (stage.Balance backends changes) =
    spec.Balance (backends_view backends.items) (map change_view changes.items)
stage_view (stage.Window size reach) = spec.Window size reach
stage_view (stage.Scan text reach) = spec.Scan text.items reach

abbrev pub stages_view : List Stage → List spec.Stage
stages_view = map stage_view
