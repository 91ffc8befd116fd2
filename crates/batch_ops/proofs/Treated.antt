-- What was treated, put into an outlet.
use Rattle.std.proofs.Common.{◌≡◌, [], ◌∷◌, map, Bool, true, false, Ok, Err, Some, None, Option, Result, OnOk, OnErr, ◌||◌, refl, ap, sym, subst, ◌∙◌, arith}
use Rattle.std.specs.Prelude.{⊤, is_err}
use Rattle.std.specs.List.{list_any}
use Rattle.brick_spec.specs.Flow.{Flow}
use Rattle.brick_spec.specs.FlowStage.{FlowInput, FlowOutput}
use Rattle.brick_base.specs.Flow.{flow_of}
use Rattle.brick_base.specs.declared.drops.Reason.{Reason}
use Rattle.brick_base.specs.declared.flow.Class.{Class}
use Rattle.brick_base.specs.declared.flow.Dir.{Dir}
use Rattle.brick_base.specs.declared.memory.NoMemory.{NoMemory}
use Rattle.packet_owner.specs.Packet.{PacketModel}
use Rattle.packet_owner.specs.Spare.{SpareModel}
use Rattle.batch_ops.specs.declared.outlet.Outlet.{Outlet}
use Rattle.batch_ops.specs.Outlet.{KeyedBuffer, Grows, Takes, packets, keyed, is_lost, left_in}
use Rattle.batch_ops.specs.Operator.{Meaning, Extends, OthersStay, IsLost, Stepped, may_fail, work_item}
use Rattle.batch_ops.specs.Treat.{Treated, treated_packet, was_lost, added_by}
use Rattle.batch_ops.proofs.Calls.{takes_none, same_order}

-- one packet is added
one_added : (dir : Dir) (t : Treated) → map keyed (packets (added_by dir t)) ≡ keyed (treated_packet t) ∷ []
one_added dir (Ok q) = refl
one_added dir (Err d) = refl

lost_is : (dir : Dir) (t : Treated) → list_any is_lost (added_by dir t).dropped ≡ was_lost t
lost_is dir (Ok q) = refl
lost_is dir (Err d) = or_false (is_lost d) where
  or_false : (b : Bool) → (b || false) ≡ b
  or_false true = refl
  or_false false = refl

only_one : (dir : Dir) (p : PacketModel) (t : Treated) → keyed (treated_packet t) ≡ keyed p → was_lost t ≡ true → IsLost p (added_by dir t)
only_one dir p (Ok q) same e = cc
only_one dir p (Err d) same e = at d.reason d.packet same e where
  at : (r : Option Reason) (q : PacketModel) → keyed q ≡ keyed p → was_lost (Err (record { reason = r; packet = q })) ≡ true → IsLost p (added_by dir (Err (record { reason = r; packet = q })))
  at None q same e = (q, same, refl)
  at (Some r) q same e = cc

on_ok_of : (r : Result ⊤ NoMemory) (b : Bool) (P : Type 0) → is_err r ≡ b → (b ≡ false → P) → OnOk r P
on_ok_of (Ok x) b P e f = f (sym e)
on_ok_of (Err x) b P e f = tt

on_err_of : (r : Result ⊤ NoMemory) (b : Bool) (P : Type 0) → is_err r ≡ b → (b ≡ true → P) → OnErr r P
on_err_of (Ok x) b P e f = tt
on_err_of (Err x) b P e f = f (sym e)

-- a step that treats its packet and puts it into the outlet
pub treated_steps_by : {O : Type 0} (m : Meaning O) (old new : O) (class : Class) (p : PacketModel) (t : Treated) (out out' : Outlet) (r : Result ⊤ NoMemory)
    → m.spares new ≡ m.spares old → m.least_room new ≡ m.least_room old → m.row new ≡ m.row old → m.ready new
    → keyed (treated_packet t) ≡ keyed p → (was_lost t ≡ false → Extends m.stands old new (flow_of class) (work_item class p ∷ []) None (left_in (added_by class.dir t))) → OthersStay m.stands old new (flow_of class)
    → m.failed new ≡ was_lost t → (m.failed old ≡ true → t ≡ Err (record { reason = None; packet = p }))
    → Grows out out' (added_by class.dir t) → out'.spare ≡ out.spare → is_err r ≡ was_lost t → Stepped m old new class p out out' r
treated_steps_by m old new class p t out out' r spares room row ready kept goes others lost stays grows spare outcome = record {
  effect = record {
    added = added_by class.dir t;
    moves = record {
      slots = [];
      made = [];
      grows = grows;
      takes = subst (λ (s : SpareModel). Takes out.spare s []) (sym spare) (takes_none out.spare);
      few = omega arith;
      each = same_order _ _ (one_added class.dir t ∙ ap (λ (k : KeyedBuffer). k ∷ []) kept);
      spare = refl;
    };
    goes = on_ok_of r (was_lost t) _ outcome goes;
    others = others;
    none_lost = on_ok_of r (was_lost t) _ outcome (λ e. lost_is class.dir t ∙ e);
    gave_up = on_err_of r (was_lost t) _ outcome (λ e. lost ∙ e);
    same_spares = spares;
    same_room = room;
    same_row = row;
    stays_ready = ready;
  };
  apart = λ _. tt;
  works_on = on_ok_of r (was_lost t) _ outcome (λ e. lost ∙ e);
  lost = on_err_of r (was_lost t) _ outcome (λ e free. only_one class.dir p t kept e);
  stays_failed = λ gone. let e = stays gone in (outcome ∙ ap was_lost e, ap (added_by class.dir) e);
}

-- the same where no spare buffer is ever needed
pub treated_steps : {O : Type 0} (stands : O → Flow → FlowInput → FlowOutput → Type 0) (failed : O → Bool) (old new : O) (class : Class) (p : PacketModel) (t : Treated) (out out' : Outlet) (r : Result ⊤ NoMemory)
    → keyed (treated_packet t) ≡ keyed p → (was_lost t ≡ false → Extends stands old new (flow_of class) (work_item class p ∷ []) None (left_in (added_by class.dir t))) → OthersStay stands old new (flow_of class)
    → failed new ≡ was_lost t → (failed old ≡ true → t ≡ Err (record { reason = None; packet = p }))
    → Grows out out' (added_by class.dir t) → out'.spare ≡ out.spare → is_err r ≡ was_lost t → Stepped (may_fail stands failed) old new class p out out' r
treated_steps stands failed old new class p t out out' r kept goes others lost stays grows spare outcome =
    treated_steps_by (may_fail stands failed) old new class p t out out' r refl refl refl tt kept goes others lost stays grows spare outcome
