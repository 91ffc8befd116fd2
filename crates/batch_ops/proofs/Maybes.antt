-- An operator that may be there.
use Rattle.std.proofs.Common.{◌≡◌, ℕ, List, [], ◌∷◌, ◌++◌, Option, Some, None, Result, Ok, refl, ap, sym, subst, ◌∙◌, append-nil, lit≤}
use Rattle.std.proofs.lemmas.List.Sorted.{IsPermutation-refl}
use Rattle.std.specs.Prelude.{⊤}
use Rattle.brick_spec.specs.Flow.{Flow}
use Rattle.brick_spec.specs.FlowStage.{FlowItem}
use Rattle.brick_base.specs.Flow.{flow_of}
use Rattle.brick_base.specs.declared.flow.Class.{Class}
use Rattle.brick_base.specs.declared.memory.NoMemory.{NoMemory}
use Rattle.packet_owner.specs.Packet.{PacketModel}
use Rattle.packet_owner.specs.Spare.{SpareModel}
use Rattle.batch_ops.specs.declared.outlet.Outlet.{Outlet}
use Rattle.batch_ops.specs.Outlet.{KeyedBuffer, Grows, Takes, nothing_added, keyed}
use Rattle.batch_ops.specs.Operator.{Meaning, Effect, Stepped, Finished, work_item}
use Rattle.batch_ops.specs.Maybe.{maybe}
use Rattle.batch_ops.proofs.Calls.{takes_none, moves_none}

module _ {O : Type 0} (m : Meaning O) where
  -- ONE IS THERE

  did_some : (o o' : O) (flow : Flow) (own : List KeyedBuffer) (most : ℕ) (items : List FlowItem) (ended : Option ℕ) (out out' : Outlet) (r : Result ⊤ NoMemory)
      → Effect m o o' flow own most items ended out out' r → Effect (maybe m) (Some o) (Some o') flow own most items ended out out' r
  did_some o o' flow own most items ended out out' r d = record {
    added = d.added;
    moves = d.moves;
    goes = d.goes;
    others = d.others;
    none_lost = d.none_lost;
    gave_up = d.gave_up;
    same_spares = d.same_spares;
    same_room = d.same_room;
    same_row = d.same_row;
    stays_ready = d.stays_ready;
  }

  pub some_steps : (t : Option O) (o o' : O) (class : Class) (p : PacketModel) (out out' : Outlet) (r : Result ⊤ NoMemory) → t ≡ Some o → Stepped m o o' class p out out' r → Stepped (maybe m) t (Some o') class p out out' r
  unfolding did_some
  some_steps t o o' class p out out' r is step = subst (λ (x : Option O). Stepped (maybe m) x (Some o') class p out out' r) (sym is) (record {
    effect = did_some o o' (flow_of class) (keyed p ∷ []) (m.spares o) (work_item class p ∷ []) None out out' r step.effect;
    apart = step.apart;
    works_on = step.works_on;
    lost = step.lost;
    stays_failed = step.stays_failed;
  })

  pub some_ends : (t : Option O) (o o' : O) (class : Class) (records : ℕ) (out out' : Outlet) (r : Result ⊤ NoMemory) → t ≡ Some o → Finished m o o' class records out out' r → Finished (maybe m) t (Some o') class records out out' r
  unfolding did_some
  some_ends t o o' class records out out' r is end = subst (λ (x : Option O). Finished (maybe m) x (Some o') class records out out' r) (sym is) (record {
    effect = did_some o o' (flow_of class) [] (m.spares o) [] (Some records) out out' r end.effect;
    works_on = end.works_on;
    stays_failed = end.stays_failed;
  })

  -- NONE IS THERE

  pub none_steps : (t : Option O) (class : Class) (p : PacketModel) (out out' : Outlet) → t ≡ None → Grows out out' (record { passed = record { dir = class.dir; packet = p } ∷ []; dropped = []; consumed = [] }) → out'.spare ≡ out.spare
      → Stepped (maybe m) t t class p out out' (Ok tt)
  none_steps t class p out out' is grows spare = subst (λ (x : Option O). Stepped (maybe m) x x class p out out' (Ok tt)) (sym is) (record {
    effect = record {
      added = record { passed = record { dir = class.dir; packet = p } ∷ []; dropped = []; consumed = [] };
      moves = record { slots = []; made = []; grows = grows; takes = subst (λ (s : SpareModel). Takes out.spare s []) (sym spare) (takes_none out.spare); few = lit≤ tt; each = IsPermutation-refl (keyed p ∷ []); spare = refl };
      goes = λ came left still was. (ap (λ xs. xs ++ work_item class p ∷ []) was.0, append-nil left.dropped ∙ was.1);
      others = λ other came left differs was. was;
      none_lost = refl;
      gave_up = tt;
      same_spares = refl;
      same_room = refl;
      same_row = refl;
      stays_ready = tt;
    };
    apart = λ _. tt;
    works_on = refl;
    lost = tt;
    stays_failed = λ never. cc;
  })

  pub none_ends : (t : Option O) (class : Class) (records : ℕ) (out : Outlet) → t ≡ None → Finished (maybe m) t t class records out out (Ok tt)
  none_ends t class records out is = subst (λ (x : Option O). Finished (maybe m) x x class records out out (Ok tt)) (sym is) (record {
    effect = record {
      added = nothing_added;
      moves = moves_none 0 out;
      goes = λ came left still was. (append-nil left.passed ∙ (was.0 ∙ sym (append-nil came.items)), append-nil left.dropped ∙ was.1);
      others = λ other came left differs was. was;
      none_lost = refl;
      gave_up = tt;
      same_spares = refl;
      same_room = refl;
      same_row = refl;
      stays_ready = tt;
    };
    works_on = refl;
    stays_failed = λ never. cc;
  })
