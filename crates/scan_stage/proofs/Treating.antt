-- What the stage makes of a packet.
use Rattle.std.proofs.Common.{◌≡◌, ◌≢◌, ℕ, Bool, true, false, if◌then◌else◌, List, [], ◌∷◌, ◌++◌, Option, Some, None, Result, Ok, Err, IfOk, MatchOption, refl, ap, sym, subst, ◌∙◌, true≢false}
use Rattle.std.specs.Prelude.{option_map}
use Rattle.std.specs.Ordering.{nat_cmp}
use Rattle.std.specs.BTreeMap.{get}
use Rattle.brick_spec.specs.Flow.{Flow, Forward, Reversed}
use Rattle.brick_spec.specs.FlowStage.{FlowItem, FlowStage, left_by}
use Rattle.brick_spec.specs.Layer.{Layer, tcp_layer}
use Rattle.brick_spec.specs.Stage.{Filter}
use Rattle.brick_spec.specs.Stream.{StreamSegment}
use Rattle.brick_base.specs.Flow.{dir_view, flow_of}
use Rattle.brick_base.specs.declared.flow.Class.{Class}
use Rattle.packet_owner.specs.Packet.{PacketModel, packet_item}
use Rattle.batch_ops.specs.Operator.{work_item}
use Rattle.batch_ops.specs.Outlet.{left_in, keyed}
use Rattle.batch_ops.specs.Treat.{Treated, Treats, treated_packet, was_lost, added_by}
use Rattle.flow_spec.specs.FlowStream as streams
use Rattle.flow_spec.specs.FlowStream.{segment_at, segments_of}
use Rattle.flow_spec.specs.Scan.{is_found, scanned, scan_stage}
use Rattle.window_stream.specs.Answers.{segment_of}
use Rattle.window_stream.specs.declared.stream.Segment.{Segment}
use Rattle.stream_scan.specs.ScanModel.{ScansFor}
use Rattle.scan_stage.specs.Segment.{IsSegment}
use Rattle.scan_stage.specs.FlowScans.{FlowScansFit}
use Rattle.scan_stage.specs.ScanKind.{FitsAt, ScanFits, OthersKept, IsSameStage, scan_kind}
use Rattle.scan_stage.specs.declared.flow_scans.FlowScans.{FlowScans}
use Rattle.scan_stage.specs.declared.stage.ScanStage.{ScanStage}
use Rattle.scan_stage.proofs.Segments.{segments_without}

pub ok_map : {X E : Type 0} (r : Result X E) (P Q : X → Type 0) → ((x : X) → P x → Q x) → IfOk r P → IfOk r Q
ok_map (Ok x) P Q f h = f x h
ok_map (Err e) P Q f h = tt

pub no_segment : (frame : List ℕ) (r : Option Segment) → MatchOption r (tcp_layer frame ≡ None) (IsSegment frame) → ((s : Segment) → r ≡ Some s → ⊥) → tcp_layer frame ≡ None
no_segment frame None h none = h
no_segment frame (Some s) h none = absurd (none s refl)

-- the segment of a packet, that was read of its frame
pub segment_is : (q : PacketModel) (frame : List ℕ) (s : Segment) → frame ≡ q.frame → IsSegment frame s → streams.segment_of (packet_item q) ≡ Some (segment_of s)
segment_is q frame s same is =
    subst (λ (f : List ℕ). option_map (segment_at f) (tcp_layer f) ≡ Some (segment_of s)) same
    (ap (option_map (segment_at frame)) is.is ∙ ap (λ (c : StreamSegment). Some c) (sym is.segment))

-- an item without the TCP layer changes nothing of what is kept
fit_without : (s : FlowScans) (x : FlowItem) (items : List FlowItem) → streams.segment_of x.item ≡ None → FlowScansFit s items → FlowScansFit s (items ++ x ∷ [])
fit_without s x items none fit = (
  subst (λ (ss : List StreamSegment). ScansFor s.forward ss) (sym (segments_without Forward x items none)) fit.0,
  subst (λ (ss : List StreamSegment). ScansFor s.reversed ss) (sym (segments_without Reversed x items none)) fit.1,
)

fits_without : (o : Option FlowScans) (x : FlowItem) (items : List FlowItem) → streams.segment_of x.item ≡ None → FitsAt o items → FitsAt o (items ++ x ∷ [])
fits_without None x items none fit = (segments_without Forward x items none ∙ fit.0, segments_without Reversed x items none ∙ fit.1)
fits_without (Some s) x items none fit = fit_without s x items none fit

never : {X : Type 0} (b : Bool) → b ≡ false → b ≡ true → X
never true h k = cc
never false h k = cc

-- a packet without the TCP layer
pub treats_other : (s : ScanStage) (class : Class) (q : PacketModel) → tcp_layer q.frame ≡ None → s.failed ≡ false → Treats scan_kind s s class q (Ok q)
treats_other s class q none works = record {
  kept = refl;
  on_item = λ _ before fit. sym (ap (scanned (is_found s.text.items s.reach (before ++ work_item class q ∷ [])) (work_item class q)) (ap (option_map (segment_at q.frame)) none));
  fits = λ _ before fit. fits_without (get nat_cmp s.scans class.flow) (work_item class q) before (ap (option_map (segment_at q.frame)) none) fit;
  others = λ other before differs fit. fit;
  same = refl;
  lost = works;
  stays_failed = λ was. never s.failed works was;
}

module _ (old new : ScanStage) (class : Class) (q : PacketModel) (others : OthersKept old new class.flow) (text : new.text ≡ old.text) (reach : new.reach ≡ old.reach) where
  others_fit : (other : Flow) (before : List FlowItem) → other.number ≢ class.flow → ScanFits old other.number before → ScanFits new other.number before
  others_fit other before differs fit = subst (λ (o : Option FlowScans). FitsAt o before) (sym (others other.number differs)) fit

  -- a segment: the stage says whether the text is found
  pub treats_segment : (c : StreamSegment) (found : Bool) (r : Treated) → streams.segment_of (packet_item q) ≡ Some c
      → ((items : List FlowItem) (x : FlowItem) → ScanFits old class.flow items → x.dir ≡ dir_view class.dir → streams.segment_of x.item ≡ Some c → (found ≡ is_found old.text.items old.reach (items ++ x ∷ [])) × ScanFits new class.flow (items ++ x ∷ []))
      → new.failed ≡ old.failed → old.failed ≡ false → keyed (treated_packet r) ≡ keyed q → was_lost r ≡ false
      → left_in (added_by class.dir r) ≡ left_by (work_item class q) (if found then Err Filter else Ok (packet_item q)) → Treats scan_kind old new class q r
  treats_segment c found r is says stays works kept here left = record {
    kept = kept;
    on_item = λ _ before fit.
        let x = work_item class q in
        left
        ∙ ap (λ (b : Bool). left_by x (if b then Err Filter else Ok x.item)) (says before x fit refl is).0
        ∙ sym (ap (scanned (is_found old.text.items old.reach (before ++ x ∷ [])) x) is);
    fits = λ _ before fit. (says before (work_item class q) fit refl is).1;
    others = others_fit;
    same = λ i flow. scan_stage (text i).items (reach i);
    lost = stays ∙ works ∙ sym here;
    stays_failed = λ was. never old.failed works was;
  }

  -- memory ran out
  pub treats_lost : new.failed ≡ true → Treats scan_kind old new class q (Err (record { reason = None; packet = q }))
  treats_lost lost = record {
    kept = refl;
    on_item = λ none. cc;
    fits = λ none. cc;
    others = others_fit;
    same = λ i flow. scan_stage (text i).items (reach i);
    lost = lost;
    stays_failed = λ _. refl;
  }
