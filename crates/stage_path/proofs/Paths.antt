-- Calls of paths.
use Rattle.std.proofs.Common.{◌≡◌, ℕ, List, [], ◌∷◌, ◌++◌, map, Bool, true, false, Option, Some, None, Result, Ok, Err, OnOk, OnErr, refl, ap, sym, subst, ◌∙◌, append-nil}
use Rattle.std.specs.Prelude.{⊤, is_err}
use Rattle.std.specs.List.{AllByRecursion}
use Rattle.std.specs.List.Sorted.{IsPermutation}
use Rattle.brick_spec.specs.Flow.{Flow}
use Rattle.brick_spec.specs.FlowStage.{FlowStage, FlowInput, FlowOutput, nothing}
use Rattle.brick_base.specs.Flow.{flow_of}
use Rattle.brick_base.specs.declared.flow.Class.{Class}
use Rattle.brick_base.specs.declared.memory.NoMemory.{NoMemory}
use Rattle.packet_owner.specs.Packet.{PacketModel}
use Rattle.batch_ops.specs.declared.outlet.Dropped.{Dropped}
use Rattle.batch_ops.specs.declared.outlet.Outlet.{Outlet}
use Rattle.batch_ops.specs.Outlet.{KeyedBuffer, Grows, HasOtherKey, packets, keyed, left_in}
use Rattle.batch_ops.specs.Operator.{Meaning, Extends, IsLost, Stepped, Finished, work_item}
use Rattle.batch_ops.specs.Maybe.{MaybeStands}
use Rattle.batch_ops.specs.Stage.{RowStands}
use Rattle.batch_ops.specs.Then.{ThenStands}
use Rattle.batch_ops.specs.Treat.{Kind, NoRest, RowHolds, RowTreats, held_by, stages_at, was_lost, added_by}
use Rattle.batch_ops.proofs.Calls.{goes_nothing, same_order}
use Rattle.batch_ops.proofs.Stages.{row_of_then, row_of_rows}
use Rattle.batch_ops.proofs.ThenCalls.{then_goes, then_others, left_after, on_ok_map, on_err_map}
use Rattle.batch_ops.proofs.Treated.{treated_steps_by}
use Rattle.batch_ops.proofs.Treats.{row_means, row_rests, stages_same}
use Rattle.stage_path.specs.Path.{path, StraightMeansRow, BentMeansRow}

pub never : {X : Type 0} (b : Bool) → b ≡ false → b ≡ true → X
never true h k = cc
never false h k = cc

on_ok_by : (r : Result ⊤ NoMemory) (b : Bool) → b ≡ is_err r → OnOk r (b ≡ false)
on_ok_by (Ok x) b e = e
on_ok_by (Err x) b e = tt

on_err_by : (r : Result ⊤ NoMemory) (b : Bool) → b ≡ is_err r → OnErr r (b ≡ true)
on_err_by (Ok x) b e = tt
on_err_by (Err x) b e = e

module _ {S B T : Type 0} (k : Kind S) (m : Meaning B) (stages : T → List S) (behind : T → B) (failed : T → Bool) where
  abbrev pub whole : Meaning T
  whole = path k m stages behind failed

  abbrev row : List S → Flow → FlowInput → FlowOutput → Type 0
  row = RowHolds (held_by k)

  -- the stages pass the packet, and the operator behind them is given it
  pub path_steps : (old new : T) (class : Class) (p q : PacketModel) (out out' : Outlet) (r : Result ⊤ NoMemory)
      → RowTreats k (stages old) (stages new) class p (Ok q) → Stepped m (behind old) (behind new) class q out out' r → failed old ≡ false → failed new ≡ is_err r → Stepped whole old new class p out out' r
  path_steps old new class p q out out' r one two works outcome =
      let d = two.effect in
      let moves = d.moves in
      record {
        effect = record {
          added = d.added;
          moves = record {
            slots = moves.slots;
            made = moves.made;
            grows = moves.grows;
            takes = moves.takes;
            few = moves.few;
            each = subst (λ (x : KeyedBuffer). IsPermutation (map keyed (packets d.added)) ((x ∷ []) ++ moves.made)) one.kept moves.each;
            spare = moves.spare;
          };
          goes = on_ok_map r _ _ (λ (goes : Extends m.stands (behind old) (behind new) (flow_of class) (work_item class q ∷ []) None (left_in d.added)).
              then_goes row m.stands (stages old) (stages new) (behind old) (behind new) (flow_of class) (work_item class p ∷ []) None (left_in (added_by class.dir (Ok q))) (left_in d.added) (one.goes refl) goes) d.goes;
          others = then_others row m.stands (stages old) (stages new) (behind old) (behind new) (flow_of class) one.others d.others;
          none_lost = d.none_lost;
          gave_up = on_err_by r (failed new) outcome;
          same_spares = d.same_spares;
          same_room = d.same_room;
          same_row = λ i flow. stages_same k (stages new) (stages old) one.same i flow ++ d.same_row i flow;
          stays_ready = d.stays_ready;
        };
        apart = λ own. subst (λ (x : KeyedBuffer). AllByRecursion (HasOtherKey x) moves.made) one.kept (two.apart (ap (λ (x : KeyedBuffer). x.j) one.kept ∙ own));
        works_on = on_ok_by r (failed new) outcome;
        lost = on_err_map r _ _ (λ (lost : moves.slots ≡ [] → IsLost q d.added) free. let l = lost free in (l.0, l.1 ∙ one.kept, l.2)) two.lost;
        stays_failed = λ gone. never (failed old) works gone;
      }

  -- the stages drop the packet
  pub path_drops : (old new : T) (class : Class) (p : PacketModel) (d : Dropped) (out out' : Outlet) (r : Result ⊤ NoMemory)
      → RowTreats k (stages old) (stages new) class p (Err d) → behind new ≡ behind old → m.ready (behind old) → failed old ≡ false → failed new ≡ is_err r
      → Grows out out' (added_by class.dir (Err d)) → out'.spare ≡ out.spare → is_err r ≡ was_lost (Err d) → Stepped whole old new class p out out' r
  path_drops old new class p d out out' r one same fit works outcome grows spare lost =
      let flow = flow_of class in
      let l = left_in (added_by class.dir (Err d)) in
      let only : left_after l nothing ≡ l = ap (λ ds. record { passed = []; dropped = ds }) (append-nil l.dropped) in
      let quiet = subst (λ (b : B). Extends m.stands (behind old) b flow [] None nothing) (sym same) (goes_nothing m.stands (behind old) flow) in
      treated_steps_by whole old new class p (Err d) out out' r (ap m.spares same) (ap m.least_room same) (λ i flow. stages_same k (stages new) (stages old) one.same i flow ++ m.row (same i) flow) (subst (λ (b : B). m.ready b) (sym same) fit) one.kept
      (λ kept. subst (λ (t : FlowOutput). Extends whole.stands old new flow (work_item class p ∷ []) None t) only
      (then_goes row m.stands (stages old) (stages new) (behind old) (behind new) flow (work_item class p ∷ []) None l nothing (one.goes kept) quiet))
      (then_others row m.stands (stages old) (stages new) (behind old) (behind new) flow one.others (λ other came left differs was. subst (λ (b : B). m.stands b other came left) (sym same) was))
      (outcome ∙ lost) (λ gone. never (failed old) works gone) grows spare lost

  -- the end of a flow comes to the operator
  pub path_ends : NoRest k → (old new : T) (class : Class) (records : ℕ) (out out' : Outlet) (r : Result ⊤ NoMemory) → stages new ≡ stages old → Finished m (behind old) (behind new) class records out out' r
      → failed old ≡ false → failed new ≡ is_err r → Finished whole old new class records out out' r
  path_ends none old new class records out out' r same two works outcome =
      let d = two.effect in
      let flow = flow_of class in
      let quiet = subst (λ (ss : List S). Extends row (stages old) ss flow [] (Some records) nothing) (sym same) (row_rests k none (stages old) flow records) in
      record {
        effect = record {
          added = d.added;
          moves = d.moves;
          goes = on_ok_map r _ _ (λ (goes : Extends m.stands (behind old) (behind new) flow [] (Some records) (left_in d.added)).
              then_goes row m.stands (stages old) (stages new) (behind old) (behind new) flow [] (Some records) nothing (left_in d.added) quiet goes) d.goes;
          others = then_others row m.stands (stages old) (stages new) (behind old) (behind new) flow (λ other came left differs was. subst (λ (ss : List S). row ss other came left) (sym same) was) d.others;
          none_lost = d.none_lost;
          gave_up = on_err_by r (failed new) outcome;
          same_spares = d.same_spares;
          same_room = d.same_room;
          same_row = λ i flow. stages_at k (same i) flow ++ d.same_row i flow;
          stays_ready = d.stays_ready;
        };
        works_on = on_ok_by r (failed new) outcome;
        stays_failed = λ gone. never (failed old) works gone;
      }

-- AS ROWS

pub straight_means : {S B : Type 0} (k : Kind S) (stands : B → Flow → FlowInput → FlowOutput → Type 0) → StraightMeansRow k stands
straight_means {S} {B} k stands ss flow came left was =
    let none : Option B = None in
    subst (λ (ts : List FlowStage). RowStands ts came left) (append-nil (stages_at k ss flow))
    (row_of_rows (RowHolds (held_by k)) (MaybeStands stands) ss none flow (stages_at k ss flow) [] (row_means k ss flow) (λ came left was. (was.0, same_order left.dropped [] was.1)) came left was)

pub bent_means : {S W : Type 0} (k : Kind S) (stands : W → Flow → FlowInput → FlowOutput → Type 0) → BentMeansRow k stands
bent_means k stands ss w ts flow stage is came left was =
    row_of_rows (RowHolds (held_by k)) (λ w. ThenStands stands (RowHolds (held_by k)) w ts) ss w flow (stages_at k ss flow) (stage ∷ stages_at k ts flow) (row_means k ss flow)
    (row_of_then stands (RowHolds (held_by k)) w ts flow stage (stages_at k ts flow) is (row_means k ts flow)) came left was
