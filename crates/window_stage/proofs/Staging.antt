-- What one packet, or the end of a flow, does to the stage.
use Rattle.std.proofs.Common.{◌≡◌, ◌≢◌, ℕ, ◌+◌, ◌/◌, ◌<◌, ◌≤◌, Bool, true, false, List, [], ◌∷◌, ◌++◌, Option, Some, None, Ok, Err, refl, sym, subst, ◌∙◌, arith, append-nil}
use Rattle.std.specs.List.{AllByRecursion, list_any}
use Rattle.std.proofs.Math.Nat.{le-div_iff_mul-le}
use Rattle.brick_spec.specs.Flow.{Flow, Direction, Forward, Reversed}
use Rattle.brick_spec.specs.FlowStage.{FlowItem, FlowInput, FlowOutput, both, left_by}
use Rattle.brick_spec.specs.Layer.{tcp_layer}
use Rattle.brick_base.specs.Flow.{flow_of}
use Rattle.brick_base.specs.declared.flow.Class.{Class}
use Rattle.brick_base.specs.declared.memory.NoMemory.{NoMemory}
use Rattle.packet_owner.specs.Packet.{PacketModel}
use Rattle.batch_ops.specs.declared.outlet.Outlet.{Outlet}
use Rattle.batch_ops.specs.Outlet.{Added, Moves, HasOtherKey, is_lost, only_lost, left_in, keyed}
use Rattle.batch_ops.specs.Operator.{Extends, OthersStay, Stepped, Finished, with_more, work_item}
use Rattle.batch_ops.specs.Stage.{StageStands}
use Rattle.batch_ops.proofs.Stages.{stage_goes, stage_rests}
use Rattle.flow_spec.specs.Window.{last_template, window_told, window_rest, window_stage}
use Rattle.window_stage.specs.Emission.{Emitted, only_passed}
use Rattle.window_stage.specs.FlowHalves.{rests_in}
use Rattle.window_stage.specs.Flows.{NoSegments, FitsAt, FlowsFit, FlowsStepped, OthersKept}
use Rattle.window_stage.specs.Kept.{kept_at}
use Rattle.window_stage.specs.StageState.{WindowStands}
use Rattle.window_stage.specs.StageMeaning.{window_meaning}
use Rattle.window_stage.specs.declared.flow_halves.FlowHalves.{FlowHalves}
use Rattle.window_stage.specs.declared.flows.Flows.{Flows}
use Rattle.window_stage.specs.declared.stage.WindowStage.{WindowStage}
use Rattle.window_stage.proofs.Halves.{half_without}
use Rattle.window_stage.proofs.Telling.{segments_without, last_without, told_without}
use Rattle.window_stage.proofs.Stepping.{moves_as}

-- AS AN OPERATOR

abbrev stands : WindowStage → Flow → FlowInput → FlowOutput → Type 0
stands = window_meaning.stands

abbrev spares : WindowStage → ℕ
spares = window_meaning.spares

clash : (b : Bool) → b ≡ false → b ≡ true → ⊥
clash true h k = cc
clash false h k = cc

module _ (old new : WindowStage) (class : Class) (p : PacketModel) (out out' : Outlet) (added : Added) (size : new.size ≡ old.size) (reach : new.reach ≡ old.reach) (works : old.failed ≡ false)
    (moves : Moves (keyed p ∷ []) (spares old) out out' added) (apart : p.j ≡ 0 → AllByRecursion (HasOtherKey (keyed p)) moves.made) (others : OthersStay stands old new (flow_of class)) where
  -- the packet was handled
  pub stage_steps : Extends stands old new (flow_of class) (work_item class p ∷ []) None (left_in added) → list_any is_lost added.dropped ≡ false → new.failed ≡ false
      → Stepped window_meaning old new class p out out' (Ok tt)
  stage_steps goes none still = record {
    effect = record {
      added = added;
      moves = moves;
      goes = goes;
      others = others;
      none_lost = none;
      gave_up = tt;
      same_spares = λ i. reach i / size i + 1;
      same_room = λ i. 54 + size i;
      same_row = λ i flow. window_stage (size i) (reach i) flow ∷ [];
      stays_ready = tt;
    };
    apart = apart;
    works_on = still;
    lost = tt;
    stays_failed = λ was. absurd (clash old.failed works was);
  }

  -- memory ran out
  pub stage_loses : (e : NoMemory) → added ≡ only_lost p → new.failed ≡ true → Stepped window_meaning old new class p out out' (Err e)
  stage_loses e lost gone = record {
    effect = record {
      added = added;
      moves = moves;
      goes = tt;
      others = others;
      none_lost = tt;
      gave_up = gone;
      same_spares = λ i. reach i / size i + 1;
      same_room = λ i. 54 + size i;
      same_row = λ i flow. window_stage (size i) (reach i) flow ∷ [];
      stays_ready = tt;
    };
    apart = apart;
    works_on = tt;
    lost = λ free. (p, refl, lost);
    stays_failed = λ was. absurd (clash old.failed works was);
  }

-- WHAT IS KEPT

-- an item without the TCP layer changes nothing
fits_without : (reach : ℕ) (o : Option FlowHalves) (items : List FlowItem) (x : FlowItem) → tcp_layer x.item.frame ≡ None → FitsAt reach o items → FitsAt reach o (items ++ x ∷ [])
fits_without reach None items x without (f, r) = (nothing Forward f, nothing Reversed r) where
  nothing : (d : Direction) → NoSegments reach d items → NoSegments reach d (items ++ x ∷ [])
  nothing d (none, last) = (segments_without d x items without ∙ none, last_without reach d items x without ∙ last)
fits_without reach (Some h) items x without (f, r) = (half_without Forward h.forward items x without f, half_without Reversed h.reversed items x without r)

-- what is told of an item, it makes of it
told_on : (size reach : ℕ) (flow : Flow) (x : FlowItem) (l : FlowOutput) (came : FlowInput) (left : FlowOutput) → l ≡ window_told size reach came.items x → came.ended ≡ None → StageStands (window_stage size reach flow) came left
    → StageStands (window_stage size reach flow) (with_more came (x ∷ []) None) (both left l)
told_on size reach flow x l came left told still was =
    subst (λ (m : FlowOutput). StageStands (window_stage size reach flow) (with_more came (x ∷ []) None) (both left m)) (sym told) (stage_goes (window_stage size reach flow) x came left still was)

-- a packet without the TCP layer
pub without_goes : (size reach : ℕ) (flows : Flows) (flow : Flow) (x : FlowItem) → tcp_layer x.item.frame ≡ None → (came : FlowInput) (left : FlowOutput) → came.ended ≡ None → WindowStands size reach flows flow came left
    → WindowStands size reach flows flow (with_more came (x ∷ []) None) (both left (left_by x (Ok x.item)))
without_goes size reach flows flow x without came left still (was, fits) = (
  told_on size reach flow x _ came left (told_without size reach came.items x without) still was,
  fits_without flows.reach (kept_at flows.halves.items flow.number) came.items x without fits,
)

-- one with it
pub flows_go : (class : Class) (p : PacketModel) (old new : Flows) (out out' : Outlet) (size reach : ℕ) → (old.size ≡ size) × (old.reach ≡ reach) → (steps : FlowsStepped old new class.flow class.dir p out out' (Ok tt))
    → (came : FlowInput) (left : FlowOutput) → came.ended ≡ None → WindowStands size reach old (flow_of class) came left
    → WindowStands size reach new (flow_of class) (with_more came (work_item class p ∷ []) None) (both left (left_in steps.added))
flows_go class p old new out out' size reach same steps came left still (was, fits) =
    let done = steps.goes came.items fits in
    (told_on size reach (flow_of class) (work_item class p) _ came left (done.1 ∙ (λ i. window_told (same.0 i) (same.1 i) came.items (work_item class p))) still was, done.0)

-- another flow
pub flows_others : (size reach : ℕ) (old new : Flows) (flow : Flow) → OthersKept old new flow.number → new.reach ≡ old.reach
    → (f : Flow) (came : FlowInput) (left : FlowOutput) → f.number ≢ flow.number → WindowStands size reach old f came left → WindowStands size reach new f came left
flows_others size reach old new flow kept same f came left apart (was, fits) =
    (was, subst (λ (n : ℕ). FitsAt n (kept_at new.halves.items f.number) came.items) (sym same) (subst (λ (o : Option FlowHalves). FitsAt old.reach o came.items) (sym (kept f.number apart)) fits))

-- nothing came
pub fits_at_first : (reach : ℕ) (o : Option FlowHalves) → o ≡ None → FitsAt reach o []
unfolding last_template
fits_at_first reach o none = subst (λ (x : Option FlowHalves). FitsAt reach x []) (sym none) ((refl, refl), (refl, refl))

-- THE END

-- two rests at most, and there are as many spare buffers
pub two_at_least : (size reach : ℕ) → (64 ≤ size) × (size ≤ 1460) → (1460 ≤ reach) × (reach ≤ 1048576) → 2 ≤ reach / size + 1
two_at_least size reach windows within =
    let pos : 0 < size = omega arith in
    let one : 1 ≤ reach / size = (le-div_iff_mul-le pos).1 (omega arith) in
    omega arith

-- what both directions leave at the end
abbrev pub RestsOf : WindowStage → Flow → ℕ → List FlowItem → Type 0
RestsOf s flow n xs = (items : List FlowItem) → FlowsFit s.flows flow.number items → xs ≡ (window_rest s.size s.reach flow items n).passed

pub rests_are : (s : WindowStage) (flow : Flow) (n a : ℕ) → a ≡ n + flow.number → (xs : List FlowItem)
    → ((items : List FlowItem) → FlowsFit s.flows flow.number items → xs ≡ rests_in s.flows.size s.flows.reach a items) → RestsOf s flow n xs
unfolding window_rest
rests_are s flow n a e xs p items fits = p items fits ∙ (λ k. rests_in (s.same.0 k) (s.same.1 k) (e k) items)

-- the rest drops nothing
rest_drops : (size reach : ℕ) (flow : Flow) (items : List FlowItem) (n : ℕ) → record { passed = (window_rest size reach flow items n).passed; dropped = [] } ≡ window_rest size reach flow items n
unfolding window_rest
rest_drops size reach flow items n = refl

module _ (s : WindowStage) (class : Class) (records : ℕ) (out out' : Outlet) (works : s.failed ≡ false) (done : Emitted 2 0 (RestsOf s (flow_of class) records) out out') where
  ends_on : (came : FlowInput) (left : FlowOutput) → came.ended ≡ None → stands s (flow_of class) came left → stands s (flow_of class) (with_more came [] (Some records)) (both left (left_in (only_passed done.made)))
  ends_on came left still (was, fits) =
      let flow = flow_of class in
      let rests : left_in (only_passed done.made) ≡ window_rest s.size s.reach flow came.items records =
      (λ i. record { passed = done.items came.items fits i; dropped = [] }) ∙ rest_drops s.size s.reach flow came.items records in (
        subst (λ (m : FlowOutput). StageStands (window_stage s.size s.reach flow) (with_more came [] (Some records)) (both left m)) (sym rests) (stage_rests (window_stage s.size s.reach flow) records came left still was),
        subst (λ (items : List FlowItem). FlowsFit s.flows flow.number items) (sym (append-nil came.items)) fits,
      )

  pub stage_ends : Finished window_meaning s s class records out out' (Ok tt)
  stage_ends = record {
    effect = record {
      added = only_passed done.made;
      moves = moves_as [] 2 (spares s) out out' (only_passed done.made) (two_at_least s.size s.reach s.windows s.within) done.moves;
      goes = ends_on;
      others = λ other came left differs was. was;
      none_lost = refl;
      gave_up = tt;
      same_spares = refl;
      same_room = refl;
      same_row = refl;
      stays_ready = tt;
    };
    works_on = works;
    stays_failed = λ was. absurd (clash s.failed works was);
  }
