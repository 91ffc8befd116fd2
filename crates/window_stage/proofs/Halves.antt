-- What one packet does to both directions of its flow.
use Rattle.std.proofs.Common.{◌≡◌, ◌∙◌, ℕ, ◌+◌, ◌/◌, false, List, [], ◌∷◌, ◌++◌, None, Result, ap, sym, subst, arith}
use Rattle.std.specs.Prelude.{⊤}
use Rattle.brick_spec.specs.Flow.{Direction, Forward, Reversed}
use Rattle.brick_spec.specs.FlowStage.{FlowItem}
use Rattle.brick_spec.specs.Layer.{tcp_layer}
use Rattle.brick_spec.specs.Stream.{StreamSegment}
use Rattle.brick_base.specs.Flow.{dir_view}
use Rattle.brick_base.specs.declared.flow.Dir.{Dir}
use Rattle.brick_base.specs.declared.flow.Dir.TheVariants as dirs
use Rattle.brick_base.specs.declared.memory.NoMemory.{NoMemory}
use Rattle.packet_owner.specs.Packet.{PacketModel}
use Rattle.batch_ops.specs.declared.outlet.Outlet.{Outlet}
use Rattle.batch_ops.specs.Outlet.{keyed}
use Rattle.batch_ops.proofs.ThenCalls.{on_ok_map}
use Rattle.window_stream.specs.StreamModel.{StandsFor}
use Rattle.flow_spec.specs.FlowStream.{is_same}
use Rattle.flow_spec.specs.Window.{rest_in, window_told}
use Rattle.window_stage.specs.Own.{item_in}
use Rattle.window_stage.specs.HalfFlow.{HalfFlowFits, HalfFlowStepped, most_windows}
use Rattle.window_stage.specs.FlowHalves.{FlowHalvesFit, FlowHalvesStepped, rests_in}
use Rattle.window_stage.specs.declared.flow_halves.FlowHalves.{FlowHalves}
use Rattle.window_stage.specs.declared.half_flow.HalfFlow.{HalfFlow}
use Rattle.window_stage.proofs.Telling.{segments_apart, segments_without, last_apart, last_without}
use Rattle.window_stage.proofs.Stepping.{moves_as}

-- AN ITEM THAT IS NO SEGMENT OF THE DIRECTION

-- an item of the other direction changes nothing
pub half_apart : (d : Direction) (w : HalfFlow) (items : List FlowItem) (x : FlowItem) → is_same d x.dir ≡ false → HalfFlowFits d w items → HalfFlowFits d w (items ++ x ∷ [])
half_apart d w items x apart fits = record {
  stream = subst (λ (ss : List StreamSegment). StandsFor w.stream ss) (sym (segments_apart d x items apart)) fits.stream;
  last = fits.last ∙ sym (last_apart w.stream.reach d items x apart);
}

-- nor does one without the TCP layer
pub half_without : (d : Direction) (w : HalfFlow) (items : List FlowItem) (x : FlowItem) → tcp_layer x.item.frame ≡ None → HalfFlowFits d w items → HalfFlowFits d w (items ++ x ∷ [])
half_without d w items x without fits = record {
  stream = subst (λ (ss : List StreamSegment). StandsFor w.stream ss) (sym (segments_without d x items without)) fits.stream;
  last = fits.last ∙ sym (last_without w.stream.reach d items x without);
}

-- A STEP IN ONE DIRECTION

module _ (h h' : FlowHalves) (dir : Dir) (p : PacketModel) (out out' : Outlet) (result : Result ⊤ NoMemory) where
  abbrev x : FlowItem
  x = item_in dir p

  pub forward_steps : dir ≡ dirs.Forward → h'.reversed ≡ h.reversed → HalfFlowStepped h.forward h'.forward dir p out out' result → FlowHalvesStepped h h' dir p out out' result
  forward_steps is kept step = record {
    added = step.added;
    moves = step.moves;
    apart = step.apart;
    goes = on_ok_map result _ _ (λ goes items fits.
        let d : dir_view dir ≡ Forward = ap dir_view is in
        let done = goes items (subst (λ (e : Direction). HalfFlowFits e h.forward items) (sym d) fits.0) in (
          (
            subst (λ (e : Direction). HalfFlowFits e h'.forward (items ++ x ∷ [])) d done.0,
            subst (λ (w : HalfFlow). HalfFlowFits Reversed w (items ++ x ∷ [])) (sym kept) (half_apart Reversed h.reversed items x (ap (is_same Reversed) d) fits.1),
          ),
          done.1,
        )) step.goes;
    none_lost = step.none_lost;
    lost = step.lost;
    same_size = step.same_size;
    same_reach = step.same_reach;
  }

  pub reversed_steps : dir ≡ dirs.Reversed → h'.forward ≡ h.forward → HalfFlowStepped h.reversed h'.reversed dir p out out' result → FlowHalvesStepped h h' dir p out out' result
  reversed_steps is kept step = record {
    added = step.added;
    moves = moves_as (keyed p ∷ []) (most_windows h.reversed) (most_windows h.forward) out out' step.added
        (let e : most_windows h.reversed ≡ most_windows h.forward = (λ i. h.same.1 i / h.same.0 i + 1) in omega arith) step.moves;
    apart = step.apart;
    goes = on_ok_map result _ _ (λ goes items fits.
        let d : dir_view dir ≡ Reversed = ap dir_view is in
        let done = goes items (subst (λ (e : Direction). HalfFlowFits e h.reversed items) (sym d) fits.1) in (
          (
            subst (λ (w : HalfFlow). HalfFlowFits Forward w (items ++ x ∷ [])) (sym kept) (half_apart Forward h.forward items x (ap (is_same Forward) d) fits.0),
            subst (λ (e : Direction). HalfFlowFits e h'.reversed (items ++ x ∷ [])) d done.0,
          ),
          done.1 ∙ (λ i. window_told (h.same.0 i) (h.same.1 i) items x),
        )) step.goes;
    none_lost = step.none_lost;
    lost = step.lost;
    same_size = ap (λ (w : HalfFlow). w.size) kept;
    same_reach = ap (λ (w : HalfFlow). w.stream.reach) kept;
  }

-- THE END

-- the rests of both directions
pub rests_join : (h : FlowHalves) (a : ℕ) (xs ys : List FlowItem)
    → ((items : List FlowItem) → HalfFlowFits Forward h.forward items → xs ≡ rest_in h.forward.size h.forward.stream.reach Forward a 0 items)
    → ((items : List FlowItem) → HalfFlowFits Reversed h.reversed items → ys ≡ rest_in h.reversed.size h.reversed.stream.reach Reversed a 1 items)
    → (items : List FlowItem) → FlowHalvesFit h items → xs ++ ys ≡ rests_in h.forward.size h.forward.stream.reach a items
rests_join h a xs ys p q items fits = λ i.
    p items fits.0 i ++ (q items fits.1 ∙ (λ k. rest_in (h.same.0 k) (h.same.1 k) Reversed a 1 items)) i
