-- Packets that a path treats alone.
use Rattle.std.proofs.Common.{◌≡◌, List, [], ◌∷◌, ◌++◌, Bool, false, Option, None, ap, sym, subst, ◌∙◌, append-nil}
use Rattle.brick_spec.specs.Flow.{Flow}
use Rattle.brick_spec.specs.FlowStage.{FlowItem, FlowInput, FlowOutput}
use Rattle.brick_base.specs.Flow.{flow_of}
use Rattle.brick_base.specs.declared.flow.Class.{Class}
use Rattle.packet_owner.specs.Packet.{PacketModel}
use Rattle.batch_ops.specs.Outlet.{left_in}
use Rattle.batch_ops.specs.Operator.{Meaning, Extends, work_item}
use Rattle.batch_ops.specs.Maybe.{maybe}
use Rattle.batch_ops.specs.Treat.{Kind, RowHolds, RowTreats, Treated, held_by, stages_at, was_lost, added_by}
use Rattle.batch_ops.proofs.ThenCalls.{then_goes, then_others}
use Rattle.batch_ops.proofs.Treats.{stages_same}
use Rattle.stage_path.specs.Direct.{TreatsDirectly}
use Rattle.stage_path.specs.Path.{path}
use Rattle.stage_path.proofs.Paths.{never}

-- without an operator all that comes goes on
none_goes : {B : Type 0} (m : Meaning B) (t u : Option B) → t ≡ None → u ≡ t → (flow : Flow) (items : List FlowItem) → Extends (maybe m).stands t u flow items None (record { passed = items; dropped = [] })
none_goes {B} m t u none same flow items =
    let added : FlowOutput = record { passed = items; dropped = [] } in
    subst (λ (x : Option B). Extends (maybe m).stands t x flow items None added) (sym same)
    (subst (λ (x : Option B). Extends (maybe m).stands x x flow items None added) (sym none) (λ came left still was. (ap (λ xs. xs ++ items) was.0, append-nil left.dropped ∙ was.1)))

module _ {S B T : Type 0} (k : Kind S) (m : Meaning B) (stages : T → List S) (behind : T → Option B) (failed : T → Bool) where
  abbrev pub whole : Meaning T
  whole = path k (maybe m) stages behind failed

  -- the stages treated it
  pub path_treats : (old new : T) (class : Class) (p : PacketModel) (t : Treated) → RowTreats k (stages old) (stages new) class p t → behind old ≡ None → behind new ≡ behind old
      → whole.ready new → failed old ≡ false → failed new ≡ was_lost t → TreatsDirectly whole old new class p t
  path_treats old new class p t one none same fit works outcome =
      let flow = flow_of class in
      let l = left_in (added_by class.dir t) in
      record {
        kept = one.kept;
        goes = λ kept. subst (λ (x : FlowOutput). Extends whole.stands old new flow (work_item class p ∷ []) None x) (ap (λ ds. record { passed = l.passed; dropped = ds }) (append-nil l.dropped))
            (then_goes (RowHolds (held_by k)) (maybe m).stands (stages old) (stages new) (behind old) (behind new) flow (work_item class p ∷ []) None l (record { passed = l.passed; dropped = [] }) (one.goes kept) (none_goes m (behind old) (behind new) none same flow l.passed));
        others = then_others (RowHolds (held_by k)) (maybe m).stands (stages old) (stages new) (behind old) (behind new) flow one.others (λ other came left differs was. subst (λ (b : Option B). (maybe m).stands b other came left) (sym same) was);
        lost = outcome;
        stays_failed = λ gone. never (failed old) works gone;
        same_spares = ap (maybe m).spares same;
        same_room = ap (maybe m).least_room same;
        same_row = λ i flow. stages_same k (stages new) (stages old) one.same i flow ++ (maybe m).row (same i) flow;
        stays_ready = fit;
      }
