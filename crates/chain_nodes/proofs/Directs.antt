-- A row of stages treated a packet alone, and it went on or was dropped.
use Rattle.std.proofs.Common.{◌≡◌, ℕ, List, [], ◌∷◌, ◌++◌, flat_map, Bool, false, Option, Some, None, Result, Ok, Err, OnOk, length, ◌⊎◌, inl, inr, refl, ap, sym, subst, ◌∙◌, arith, append-nil, vec_capacity}
use Rattle.std.specs.Prelude.{⊤, is_err}
use Rattle.brick_spec.specs.Flow.{Flow}
use Rattle.brick_spec.specs.Item.{Item}
use Rattle.brick_spec.specs.FlowStage.{FlowItem, Drop, FlowInput}
use Rattle.brick_base.specs.Flow.{flow_of}
use Rattle.brick_base.specs.declared.flow.Class.{Class}
use Rattle.brick_base.specs.declared.memory.NoMemory.{NoMemory}
use Rattle.packet_owner.specs.Buffer.{BufferModel}
use Rattle.packet_owner.specs.Packet.{PacketModel}
use Rattle.packet_owner.specs.Spare.{SpareModel}
use Rattle.batch_ops.specs.declared.outlet.Passed.{Passed}
use Rattle.batch_ops.specs.declared.outlet.Dropped.{Dropped}
use Rattle.batch_ops.specs.Outlet.{IsEmptied, KeyedBuffer, buffer_of, drops_of, is_lost, left_in}
use Rattle.batch_ops.specs.Operator.{Meaning as Operating, work_item}
use Rattle.batch_ops.specs.Treat.{added_by}
use Rattle.batch_ops.proofs.ThenCalls.{on_ok_map}
use Rattle.flow_spec.specs.Parts.{Parts}
use Rattle.flow_work.specs.Meaning.{Meaning}
use Rattle.flow_work.specs.Node.{Went, pipe_makes}
use Rattle.flow_work.specs.Log.{CountsMore}
use Rattle.flow_work.specs.Buffers.{AreOut, Recycled}
use Rattle.flow_work.proofs.Nodes.{piped_went, after, none_made, went_nothing}
use Rattle.stage_path.specs.Direct.{TreatsDirectly}
use Rattle.chain_nodes.specs.declared.desk.Desk.{Desk}
use Rattle.chain_nodes.specs.Desk.{SameLists, dropped_buffer}
use Rattle.chain_nodes.specs.Node.{Took, PipeServes}
use Rattle.chain_nodes.proofs.Desks.{same_emptied}
use Rattle.chain_nodes.proofs.Piped.{TookPipe}

on_ok_by : (r : Result ⊤ NoMemory) (b : Bool) (P : Type 0) → is_err r ≡ b → (b ≡ false → P) → OnOk r P
on_ok_by (Ok x) b P e f = f (sym e)
on_ok_by (Err x) b P e f = tt

-- a packet keeps its buffer
pub out_as : (b c : BufferModel) (back : List BufferModel) (spare : SpareModel) → c ≡ b → AreOut (b ∷ []) back spare → AreOut (c ∷ []) back spare
out_as b c back spare e o = subst (λ (x : BufferModel). AreOut (x ∷ []) back spare) (sym e) o

module _ {P N T : Type 0} (m : Operating P)
    (stands : N → Flow → FlowInput → Parts → Type 0) (makes : N → Meaning) (results : N → List (List Item)) (serves : N → ℕ → ℕ → ℕ → Type 0)
    (path : T → P) (next : T → N) (waiting : T → List Passed) (room : T → ℕ) where
  abbrev Serves : T → ℕ → ℕ → ℕ → Type 0
  Serves t count bytes free = PipeServes m.ready m.spares m.least_room serves (path t) (next t) (waiting t) (room t) count bytes free

  -- the pipe serves as before where the place behind it does
  still_serves : (old new : T) (count bytes free : ℕ) → m.ready (path new) → m.spares (path new) ≡ m.spares (path old) → m.least_room (path new) ≡ m.least_room (path old)
      → ((free : ℕ) → serves (next old) count bytes free → serves (next new) count bytes free) → waiting new ≡ waiting old → room new ≡ room old → Serves old count bytes free → Serves new count bytes free
  still_serves old new count bytes free fit spares least on same_waiting same_room was = record {
    ready_row = fit;
    within = let w = was.within in omega arith;
    enough = let w = was.enough in omega arith;
    long = let w = was.long in omega arith;
    behind = on free was.behind;
    one_is_plain = plain was.one_is_plain;
    none_waits = same_waiting ∙ was.none_waits;
    has_room = let w = was.has_room in omega arith;
  } where
    plain : (m.spares (path old) ≡ 0) ⊎ serves (next old) count bytes 0 → (m.spares (path new) ≡ 0) ⊎ serves (next new) count bytes 0
    plain (inl e) = inl (spares ∙ e)
    plain (inr h) = inr (on 0 h)

  -- it went on
  pub passed_took : (old new : T) (class : Class) (p q : PacketModel) (desk desk' : Desk) (r : Result ⊤ NoMemory) → TreatsDirectly m (path old) (path new) class p (Ok q)
      → Took stands makes results serves (next old) (next new) (flow_of class) (buffer_of q ∷ []) (work_item class q ∷ []) None desk desk' r → waiting new ≡ waiting old → room new ≡ room old
      → TookPipe m stands makes results serves path next waiting room old new (flow_of class) (buffer_of p ∷ []) (work_item class p ∷ []) None desk desk' r
  passed_took old new class p q desk desk' r one two same_waiting same_room =
      let l = left_in (added_by class.dir (Ok q)) in
      record {
        went = on_ok_map r _ _ (λ (y : (added : Parts) × Went stands makes results (next old) (next new) (flow_of class) (work_item class q ∷ []) None added × CountsMore desk.counts desk'.counts added.dropped). (
          after l y.0,
          piped_went m.stands m.row stands makes results path next old new (flow_of class) (work_item class p ∷ []) None l y.0 (one.goes refl) one.others one.same_row y.1,
          y.2,
        )) two.went;
        recycled = subst (λ (b : BufferModel). Recycled (b ∷ []) desk.back desk'.back desk.out.spare desk'.out.spare) (ap (λ (k : KeyedBuffer). k.buffer) one.kept) two.recycled;
        emptied = two.emptied;
        stays = λ count bytes free is was. still_serves old new count bytes free one.stays_ready one.same_spares one.same_room (λ left h. two.stays count bytes left is h) same_waiting same_room was;
        same = λ i flow came. pipe_makes (λ (_ : P). one.same_row i) (λ (_ : N). two.same i) (path old) (next old) flow came;
        many = two.many;
      }

  -- it was dropped
  pub dropped_took : (old new : T) (class : Class) (p : PacketModel) (d : Dropped) (desk desk' : Desk) (r : Result ⊤ NoMemory) → TreatsDirectly m (path old) (path new) class p (Err d) → next new ≡ next old
      → Recycled (dropped_buffer d ∷ []) desk.back desk'.back desk.out.spare desk'.out.spare → SameLists desk.out desk'.out → CountsMore desk.counts desk'.counts (drops_of d) → is_err r ≡ is_lost d
      → IsEmptied desk.out → waiting new ≡ waiting old → room new ≡ room old
      → TookPipe m stands makes results serves path next waiting room old new (flow_of class) (buffer_of p ∷ []) (work_item class p ∷ []) None desk desk' r
  dropped_took old new class p d desk desk' r one same_next recycled lists counted outcome rest same_waiting same_room =
      let l = left_in (added_by class.dir (Err d)) in
      let none = none_made (results (next old)) in
      record {
        went = on_ok_by r (is_lost d) _ outcome (λ kept. (
          after l none,
          piped_went m.stands m.row stands makes results path next old new (flow_of class) (work_item class p ∷ []) None l none (one.goes kept) one.others one.same_row
              (subst (λ (n : N). Went stands makes results (next old) n (flow_of class) [] None none) (sym same_next) (went_nothing stands makes results (next old) (flow_of class))),
          subst (λ (ds : List Drop). CountsMore desk.counts desk'.counts ds) (sym (append-nil (drops_of d ++ []) ∙ append-nil (drops_of d))) counted,
        ));
        recycled = subst (λ (b : BufferModel). Recycled (b ∷ []) desk.back desk'.back desk.out.spare desk'.out.spare) (ap (λ (k : KeyedBuffer). k.buffer) one.kept) recycled;
        emptied = same_emptied desk.out desk'.out lists rest;
        stays = λ count bytes free is was. still_serves old new count bytes free one.stays_ready one.same_spares one.same_room (λ left h. subst (λ (n : N). serves n count bytes left) (sym same_next) h) same_waiting same_room was;
        same = λ i flow came. pipe_makes (λ (_ : P). one.same_row i) (λ (_ : N). makes (same_next i)) (path old) (next old) flow came;
        many = ap (λ (n : N). length (results n)) same_next;
      }
