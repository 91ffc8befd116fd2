-- Stages that make at most one packet of a packet, and rows of them.
use Rattle.std.proofs.Common.{◌≡◌, ℕ, suc, ◌+◌, ◌<◌, List, [], ◌∷◌, ◌++◌, map, length, take, drop, get_or, false, Ok, Err, Some, None, Result, refl, ap, sym, subst, ◌∙◌, arith, append-nil, append_assoc, take-append-drop}
use Rattle.std.specs.Prelude.{⊤, is_err}
use Rattle.std.specs.List.{slice_set}
use Rattle.std.proofs.lemmas.List.{take_more_set, drop-set-lt, drop-drop, length-set}
use Rattle.std.proofs.Math.Seq.{drop-cons, drop-length}
use Rattle.brick_spec.specs.Flow.{Flow}
use Rattle.brick_spec.specs.FlowStage.{FlowItem, FlowStage, FlowInput, FlowOutput, both, nothing, left_by, alone}
use Rattle.brick_spec.specs.Item.{Item}
use Rattle.brick_spec.specs.Stage as stage
use Rattle.brick_base.specs.Flow.{flow_of}
use Rattle.brick_base.specs.Reason.{reason_view}
use Rattle.brick_base.specs.declared.drops.Reason.{Reason}
use Rattle.brick_base.specs.declared.flow.Class.{Class}
use Rattle.brick_base.specs.declared.memory.NoMemory.{NoMemory}
use Rattle.packet_owner.specs.Packet.{PacketModel, packet_item}
use Rattle.batch_ops.specs.declared.outlet.Dropped.{Dropped}
use Rattle.batch_ops.specs.declared.outlet.Outlet.{Outlet}
use Rattle.batch_ops.specs.Outlet.{Grows, left_in, keyed}
use Rattle.batch_ops.specs.Operator.{Extends, OthersStay, Stepped, Finished, may_fail, with_more, work_item}
use Rattle.batch_ops.specs.Stage.{StageStands, RowStands}
use Rattle.batch_ops.specs.Treat.{Kind, Treated, keeps_nothing, Treats, NoRest, RowHolds, RowTreats, held_by, stages_at, was_lost, added_by}
use Rattle.batch_ops.proofs.Calls.{goes_nothing, same_order}
use Rattle.batch_ops.proofs.Stages.{stage_goes, stage_rests, row_of_then, none_ends}
use Rattle.batch_ops.proofs.ThenCalls.{then_goes, then_others, left_after}
use Rattle.batch_ops.proofs.Treated.{treated_steps}

module _ {S : Type 0} (k : Kind S) where
  -- ONE STAGE

  pub held_goes : (s s' : S) (class : Class) (p : PacketModel) (r : Treated) → Treats k s s' class p r → was_lost r ≡ false → Extends (held_by k) s s' (flow_of class) (work_item class p ∷ []) None (left_in (added_by class.dir r))
  held_goes s s' class p r treats kept came left still (was, fit) =
      let x = work_item class p in
      let l = left_in (added_by class.dir r) in
      let said = subst (λ (m : FlowOutput). StageStands (k.stage s (flow_of class)) (with_more came (x ∷ []) None) (both left m)) (sym (treats.on_item kept came.items fit)) (stage_goes (k.stage s (flow_of class)) x came left still was) in
      (subst (λ (f : Flow → FlowStage). StageStands (f (flow_of class)) (with_more came (x ∷ []) None) (both left l)) (sym treats.same) said, treats.fits kept came.items fit)

  pub held_others : (s s' : S) (class : Class) (p : PacketModel) (r : Treated) → Treats k s s' class p r → OthersStay (held_by k) s s' (flow_of class)
  held_others s s' class p r treats other came left differs (was, fit) =
      (subst (λ (f : Flow → FlowStage). StageStands (f other) came left) (sym treats.same) was, treats.others other came.items differs fit)

  pub held_rests : NoRest k → (s : S) (flow : Flow) (records : ℕ) → Extends (held_by k) s s flow [] (Some records) nothing
  held_rests none s flow records came left still (was, fit) = (
    subst (λ (m : FlowOutput). StageStands (k.stage s flow) (with_more came [] (Some records)) (both left m)) (none s flow came.items records) (stage_rests (k.stage s flow) records came left still was),
    subst (λ (xs : List FlowItem). k.fits s flow xs) (sym (append-nil came.items)) fit,
  )

  -- A ROW

  abbrev row : List S → Flow → FlowInput → FlowOutput → Type 0
  row ss flow came left = RowHolds (held_by k) ss flow came left

  -- no stage
  pub row_none : (class : Class) (p : PacketModel) → RowTreats k [] [] class p (Ok p)
  row_none class p = record {
    kept = refl;
    goes = λ _ came left still was. (ap (λ xs. xs ++ work_item class p ∷ []) was.0, append-nil left.dropped ∙ was.1);
    others = λ other came left differs was. was;
    same = refl;
  }

  -- the first stage passes the packet to the others
  pub row_next : (s s' : S) (ss ss' : List S) (class : Class) (p q : PacketModel) (r : Treated) → Treats k s s' class p (Ok q) → RowTreats k ss ss' class q r → RowTreats k (s ∷ ss) (s' ∷ ss') class p r
  row_next s s' ss ss' class p q r one rest = record {
    kept = rest.kept ∙ one.kept;
    goes = λ kept.
        then_goes (held_by k) row s s' ss ss' (flow_of class) (work_item class p ∷ []) None (left_in (added_by class.dir (Ok q))) (left_in (added_by class.dir r))
        (held_goes s s' class p (Ok q) one refl) (rest.goes kept);
    others = then_others (held_by k) row s s' ss ss' (flow_of class) (held_others s s' class p (Ok q) one) rest.others;
    same = λ i. one.same i ∷ rest.same i;
  }

  -- the first stage drops it
  pub row_stop : (s s' : S) (ss : List S) (class : Class) (p : PacketModel) (d : Dropped) → Treats k s s' class p (Err d) → RowTreats k (s ∷ ss) (s' ∷ ss) class p (Err d)
  row_stop s s' ss class p d one =
      let l = left_in (added_by class.dir (Err d)) in
      let same : left_after l nothing ≡ l = ap (λ ds. record { passed = []; dropped = ds }) (append-nil l.dropped) in
      record {
        kept = one.kept;
        goes = λ kept. subst (λ (m : FlowOutput). Extends row (s ∷ ss) (s' ∷ ss) (flow_of class) (work_item class p ∷ []) None m) same
            (then_goes (held_by k) row s s' ss ss (flow_of class) (work_item class p ∷ []) None l nothing (held_goes s s' class p (Err d) one kept) (goes_nothing row ss (flow_of class)));
        others = then_others (held_by k) row s s' ss ss (flow_of class) (held_others s s' class p (Err d) one) (λ other came left differs was. was);
        same = λ i. one.same i ∷ map k.stage ss;
      }

  -- a row makes nothing of the end of a flow
  pub row_rests : NoRest k → (ss : List S) (flow : Flow) (records : ℕ) → Extends row ss ss flow [] (Some records) nothing
  row_rests none [] flow records = λ came left still was. (append-nil left.passed ∙ (was.0 ∙ sym (append-nil came.items)), append-nil left.dropped ∙ was.1)
  row_rests none (s ∷ ss) flow records = then_goes (held_by k) row s s ss ss flow [] (Some records) nothing nothing (held_rests none s flow records) (row_rests none ss flow records)

  -- a row of stages means what they mean one after another
  pub row_means : (ss : List S) (flow : Flow) (came : FlowInput) (left : FlowOutput) → row ss flow came left → RowStands (stages_at k ss flow) came left
  row_means [] flow came left was = (was.0, same_order left.dropped [] was.1)
  row_means (s ∷ ss) flow came left was =
      row_of_then (held_by k) row s ss flow (k.stage s flow) (stages_at k ss flow) (λ came left was. was.0) (λ came left was. row_means ss flow came left was) came left was

  -- its stages, one by one at a flow
  pub stages_same : (ss ts : List S) → map k.stage ss ≡ map k.stage ts → ◌≡◌ {A = Flow → List FlowStage} (stages_at k ss) (stages_at k ts)
  stages_same ss ts e = λ i flow. (sym (at_flow ss flow) ∙ (ap (λ fs. map (λ (f : Flow → FlowStage). f flow) fs) e ∙ at_flow ts flow)) i where
    at_flow : (ss : List S) (flow : Flow) → map (λ (f : Flow → FlowStage). f flow) (map k.stage ss) ≡ stages_at k ss flow
    at_flow [] flow = refl
    at_flow (s ∷ ss) flow = ap (λ fs. k.stage s flow ∷ fs) (at_flow ss flow)

  -- THE LOOP, by what the stages that are left make of the packet as it is by now

  abbrev pub SoFar : List S → List S → Class → PacketModel → PacketModel → ℕ → Type 0
  SoFar all now class p treated at =
      (length now ≡ length all) × (drop at now ≡ drop at all) × ((rest : List S) (r : Treated) → RowTreats k (drop at all) rest class treated r → RowTreats k all (take at now ++ rest) class p r)

  first_left : (all now : List S) (at : ℕ) (s : S) → at < length now → drop at now ≡ drop at all → s ≡ get_or now at s → drop at all ≡ s ∷ drop (at + 1) all
  first_left all now at s below same is =
      let one : at + 1 ≡ suc at = omega arith in
      let cut : drop at now ≡ s ∷ drop (suc at) now = drop-cons now at s below ∙ ap (λ y. y ∷ drop (suc at) now) (sym is) in
      sym same ∙ (cut ∙ ap (λ ys. s ∷ ys) (ap (λ n. drop n now) (sym one) ∙ (sym (drop-drop 1 at now) ∙ (ap (drop 1) same ∙ drop-drop 1 at all))))

  rest_left : (all now : List S) (at : ℕ) (s' : S) → drop at now ≡ drop at all → drop (at + 1) (slice_set now at s') ≡ drop (at + 1) all
  rest_left all now at s' same = drop-set-lt (at + 1) now at s' (omega arith) ∙ (sym (drop-drop 1 at now) ∙ (ap (drop 1) same ∙ drop-drop 1 at all))

  pub so_far : (all now new : List S) (class : Class) (p t q : PacketModel) (at : ℕ) (s s' : S) → SoFar all now class p t at → at < length now → s ≡ get_or now at s → new ≡ slice_set now at s' → Treats k s s' class t (Ok q) → SoFar all new class p q (at + 1)
  so_far all now new class p t q at s s' (long, same, go) below is set one = (
    ap length set ∙ (length-set now at s' ∙ long),
    ap (drop (at + 1)) set ∙ rest_left all now at s' same,
    λ rest r h. subst (λ (ss : List S). RowTreats k all ss class p r) (sym (ap (λ ss. take (at + 1) ss ++ rest) set ∙ (ap (λ ss. ss ++ rest) (take_more_set now at s' below) ∙ append_assoc (take at now) (s' ∷ []) rest)))
        (go (s' ∷ rest) r (subst (λ (ss : List S). RowTreats k ss (s' ∷ rest) class t r) (sym (first_left all now at s below same is)) (row_next s s' (drop (at + 1) all) rest class t q r one h))),
  )

  pub stopped : (all now new : List S) (class : Class) (p t : PacketModel) (d : Dropped) (at : ℕ) (s s' : S) → SoFar all now class p t at → at < length now → s ≡ get_or now at s → new ≡ slice_set now at s' → Treats k s s' class t (Err d) → RowTreats k all new class p (Err d)
  stopped all now new class p t d at s s' (long, same, go) below is set one =
      let whole : take at now ++ (s' ∷ drop (at + 1) all) ≡ new =
      sym (append_assoc (take at now) (s' ∷ []) (drop (at + 1) all)) ∙ (ap (λ ss. ss ++ drop (at + 1) all) (sym (take_more_set now at s' below))
      ∙ (ap (λ ss. take (at + 1) (slice_set now at s') ++ ss) (sym (rest_left all now at s' same)) ∙ (take-append-drop (at + 1) (slice_set now at s') ∙ sym set))) in
      subst (λ (ss : List S). RowTreats k all ss class p (Err d)) whole
      (go (s' ∷ drop (at + 1) all) (Err d) (subst (λ (ss : List S). RowTreats k ss (s' ∷ drop (at + 1) all) class t (Err d)) (sym (first_left all now at s below same is)) (row_stop s s' (drop (at + 1) all) class t d one)))

  pub passed_all : (all now : List S) (class : Class) (p t : PacketModel) (at : ℕ) → SoFar all now class p t at → at ≡ length now → RowTreats k all now class p (Ok t)
  passed_all all now class p t at (long, same, go) e =
      let none : drop at all ≡ [] = sym same ∙ (ap (λ n. drop n now) e ∙ drop-length now) in
      let whole : take at now ++ [] ≡ now = ap (λ ss. take at now ++ ss) (sym none ∙ sym same) ∙ take-append-drop at now in
      subst (λ (ss : List S). RowTreats k all ss class p (Ok t)) whole (go [] (Ok t) (subst (λ (ss : List S). RowTreats k ss [] class t (Ok t)) (sym none) (row_none class t)))

-- STAGES THAT KEEP NOTHING

module _ {S : Type 0} (makes : S → Flow → FlowItem → Result Item stage.Reason) (s : S) (class : Class) where
  abbrev pub alone_kind : Kind S
  alone_kind = keeps_nothing (λ s flow. alone (makes s flow))

  -- the packet goes on, with what was made of it
  pub made_treats : (p q : PacketModel) → makes s (flow_of class) (work_item class p) ≡ Ok (packet_item q) → keyed q ≡ keyed p → Treats alone_kind s s class p (Ok q)
  made_treats p q made same = record {
    kept = same;
    on_item = λ _ before fit. ap (left_by (work_item class p)) (sym made);
    fits = λ _ before fit. tt;
    others = λ other before differs fit. tt;
    same = refl;
    lost = refl;
    stays_failed = λ never. cc;
  }

  -- the packet is dropped as it came
  pub refused_treats : (p q : PacketModel) (r : Reason) → makes s (flow_of class) (work_item class p) ≡ Err (reason_view r) → q ≡ p → Treats alone_kind s s class p (Err (record { reason = Some r; packet = q }))
  refused_treats p q r made same = record {
    kept = ap keyed same;
    on_item = λ _ before fit. ap (λ (x : PacketModel). record { passed = []; dropped = record { reason = reason_view r; item = packet_item x } ∷ [] }) same ∙ ap (left_by (work_item class p)) (sym made);
    fits = λ _ before fit. tt;
    others = λ other before differs fit. tt;
    same = refl;
    lost = refl;
    stays_failed = λ never. cc;
  }

-- a step of any stage, by what it did with the packet
pub stage_steps : {S : Type 0} (k : Kind S) (s s' : S) (class : Class) (p : PacketModel) (t : Treated) (out out' : Outlet) (r : Result ⊤ NoMemory) → Treats k s s' class p t
    → Grows out out' (added_by class.dir t) → out'.spare ≡ out.spare → is_err r ≡ was_lost t → Stepped (may_fail (held_by k) k.failed) s s' class p out out' r
stage_steps k s s' class p t out out' r treats grows spare outcome =
    treated_steps (held_by k) k.failed s s' class p t out out' r treats.kept (held_goes k s s' class p t treats) (held_others k s s' class p t treats) treats.lost treats.stays_failed grows spare outcome

pub stage_ends : {S : Type 0} (k : Kind S) → NoRest k → (s : S) (class : Class) (records : ℕ) (out : Outlet) → k.failed s ≡ false → Finished (may_fail (held_by k) k.failed) s s class records out out (Ok tt)
stage_ends k none s class records out works = none_ends (held_by k) k.failed s class records out works (held_rests k none s (flow_of class) records)
