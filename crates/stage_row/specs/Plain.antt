-- What the plain stages of a chain mean.
use Rattle.std.specs.Prelude.{Bool, false, List, [], None, map}
use Rattle.std.specs.Arc.{arc_value}
use Rattle.std.specs.List.{AllByRecursion}
use Rattle.brick_spec.specs.AddressTranslation.{nat_stage}
use Rattle.brick_spec.specs.Flow.{Flow}
use Rattle.brick_spec.specs.FlowStage.{FlowItem, FlowStage, FlowInput, FlowOutput, nothing}
use Rattle.brick_spec.specs.Stage.{parsed_stage, ttl_stage, tos_stage, match_stage}
use Rattle.flow_spec.specs.Addressed.{item_stage}
use Rattle.flow_spec.specs.Routing.{route_stage}
use Rattle.flow_spec.specs.Scan.{scan_stage}
use Rattle.batch_ops.specs.Stage.{RowStands}
use Rattle.batch_ops.specs.Treat.{Kind, RowHolds, held_by}
use Rattle.tcp_udp.specs.MatchView.{match_view}
use Rattle.flow_key.specs.View.{plan_view}
use Rattle.lpm_fw.specs.Inspection.{stage_of}
use Rattle.lpm_fw.specs.RouteView.{route_view}
use Rattle.flow_stages.specs.EpochMacs.{balance_by}
use Rattle.flow_stages.specs.Inspected.{FirewallFits}
use Rattle.scan_stage.specs.ScanKind.{ScanFits}
use Rattle.stage_row.specs.declared.plain.PlainStage.{PlainStage}
use Rattle.stage_row.specs.declared.plain.PlainStage.TheVariants.{Parsed, Ttl, Tos, Only, Firewall, Route, Nat, Balance}
use Rattle.stage_row.specs.declared.plain.PlainStage.TheVariants.{Scan}

-- the stage that it is, at a flow
abbrev pub plain_stage : PlainStage → Flow → FlowStage
plain_stage (Parsed s) flow = item_stage parsed_stage
plain_stage (Ttl s) flow = item_stage ttl_stage
plain_stage (Tos s) flow = item_stage (tos_stage s.value)
plain_stage (Only s) flow = item_stage (match_stage (match_view s.wanted))
plain_stage (Firewall s) flow = stage_of s.established s.rules
plain_stage (Route s) flow = item_stage (route_stage s.mac (map route_view (arc_value s.routes)))
plain_stage (Nat s) flow = nat_stage (plan_view s.plan) flow
plain_stage (Balance s) flow = balance_by s.epochs s.macs.items flow
plain_stage (Scan s) flow = scan_stage s.text.items s.reach

-- what it keeps of a flow fits the items that came of it
abbrev pub PlainFits : PlainStage → Flow → List FlowItem → Type 0
PlainFits (Firewall s) flow items = FirewallFits s.established s.rules s.flows flow items
PlainFits (Scan s) flow items = ScanFits s flow.number items
PlainFits s flow items = Unit {0}

abbrev pub plain_failed : PlainStage → Bool
plain_failed (Firewall s) = s.failed
plain_failed (Scan s) = s.failed
plain_failed s = false

abbrev pub plain_kind : Kind PlainStage
plain_kind = record { stage = plain_stage; fits = PlainFits; failed = plain_failed }

-- A row means what its stages mean one after another; what was dropped is in some order.
abbrev pub RowMeansPlainStages : Type 0
RowMeansPlainStages = (ss : List PlainStage) (flow : Flow) (came : FlowInput) (left : FlowOutput)
    → RowHolds (held_by plain_kind) ss flow came left → RowStands (map (λ s. plain_stage s flow) ss) came left

-- no stage of the row keeps anything of a flow
abbrev pub IsNew : PlainStage → Type 0
IsNew s = (flow : Flow) → PlainFits s flow []

abbrev pub RowBegins : Type 0
RowBegins = (ss : List PlainStage) → AllByRecursion IsNew ss → (flow : Flow)
    → RowHolds (held_by plain_kind) ss flow (record { items = []; ended = None }) nothing
