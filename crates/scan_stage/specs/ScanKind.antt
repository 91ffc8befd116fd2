-- What is known of the stages.
use Rattle.std.specs.Prelude.{ℕ, ◌≡◌, ◌≢◌, List, [], Option, Some, None}
use Rattle.std.specs.Ordering.{nat_cmp}
use Rattle.std.specs.BTreeMap.{get}
use Rattle.brick_spec.specs.Flow.{Forward, Reversed}
use Rattle.brick_spec.specs.FlowStage.{FlowItem}
use Rattle.batch_ops.specs.Treat.{Kind}
use Rattle.flow_spec.specs.FlowStream.{segments_of}
use Rattle.flow_spec.specs.Scan.{scan_stage}
use Rattle.scan_stage.specs.FlowScans.{FlowScansFit}
use Rattle.scan_stage.specs.declared.flow_scans.FlowScans.{FlowScans}
use Rattle.scan_stage.specs.declared.stage.ScanStage.{ScanStage}

-- What is kept of a flow stands for its items so far. Nothing is kept where none was a TCP segment.
abbrev pub FitsAt : Option FlowScans → List FlowItem → Type 0
FitsAt None items = (segments_of Forward items ≡ []) × (segments_of Reversed items ≡ [])
FitsAt (Some s) items = FlowScansFit s items

-- at a flow
abbrev pub ScanFits : ScanStage → ℕ → List FlowItem → Type 0
ScanFits s flow items = FitsAt (get nat_cmp s.scans flow) items

-- nothing changed at another flow
abbrev pub OthersKept : ScanStage → ScanStage → ℕ → Type 0
OthersKept old new flow = (q : ℕ) → q ≢ flow → get nat_cmp new.scans q ≡ get nat_cmp old.scans q

abbrev pub IsSameStage : ScanStage → ScanStage → Type 0
IsSameStage old new = (new.text ≡ old.text) × (new.reach ≡ old.reach) × (new.failed ≡ old.failed)

abbrev pub scan_kind : Kind ScanStage
scan_kind = record {
  stage = λ s flow. scan_stage s.text.items s.reach;
  fits = λ s flow items. ScanFits s flow.number items;
  failed = λ s. s.failed;
}
