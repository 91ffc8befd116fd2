-- What is kept of a flow.
use Rattle.std.specs.Prelude.{ℕ, ◌≡◌, List}
use Rattle.brick_spec.specs.Flow.{Forward, Reversed}
use Rattle.brick_spec.specs.FlowStage.{FlowItem}
use Rattle.flow_spec.specs.FlowStream.{segments_of}
use Rattle.stream_scan.specs.ScanModel.{ScanModel, ScansFor}
use Rattle.scan_stage.specs.declared.flow_scans.FlowScans.{FlowScans}

abbrev pub IsOf : List ℕ → ℕ → ScanModel → Type 0
IsOf text reach s = (s.needle ≡ text) × (s.stream.reach ≡ reach)

-- both scans look for this text, with this reach
abbrev pub AreOf : List ℕ → ℕ → FlowScans → Type 0
AreOf text reach s = IsOf text reach s.forward × IsOf text reach s.reversed

-- both scans stand, for the items of the flow so far
abbrev pub FlowScansFit : FlowScans → List FlowItem → Type 0
FlowScansFit s items = ScansFor s.forward (segments_of Forward items) × ScansFor s.reversed (segments_of Reversed items)
