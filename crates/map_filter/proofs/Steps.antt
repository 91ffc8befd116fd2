-- A step of a stage, by what it did with the packet.
use Rattle.std.proofs.Common.{◌≡◌, ℕ, [], ◌∷◌, Ok, Err, Some, subst, refl}
use Rattle.brick_spec.specs.FlowStage.{FlowItem, FlowOutput, left_by, alone}
use Rattle.brick_base.specs.Flow.{flow_of}
use Rattle.brick_spec.specs.Stage.{ItemStage}
use Rattle.brick_base.specs.Reason.{reason_view}
use Rattle.brick_base.specs.declared.drops.Reason.{Reason}
use Rattle.brick_base.specs.declared.flow.Class.{Class}
use Rattle.packet_owner.specs.Packet.{PacketModel, packet_item}
use Rattle.batch_ops.specs.declared.outlet.Outlet.{Outlet}
use Rattle.batch_ops.specs.Outlet.{Grows, keyed}
use Rattle.batch_ops.specs.Operator.{Stepped, Finished, never_fails, work_item}
use Rattle.batch_ops.specs.Stage.{EachMade}
use Rattle.batch_ops.specs.Treat.{Treats, keeps_nothing}
use Rattle.batch_ops.proofs.Treats.{made_treats, refused_treats}
use Rattle.batch_ops.proofs.Stages.{step_passes, step_drops, end_adds_nothing, each_goes, each_rests}
use Rattle.map_filter.specs.Handled.{Keeps, Rejects}
use Rattle.map_filter.specs.Stages.{by_item}

module _ {O : Type 0} (s : O → ItemStage) (o : O) (class : Class) where
  pub keeps : (p q : PacketModel) → Keeps (s o) p q → Treats (keeps_nothing (λ o _. alone (by_item (s o)))) o o class p (Ok q)
  keeps p q kept = made_treats (λ o _. by_item (s o)) o class p q kept.0 kept.1

  pub rejects : (p q : PacketModel) (r : Reason) → Rejects (s o) (reason_view r) p q → Treats (keeps_nothing (λ o _. alone (by_item (s o)))) o o class p (Err (record { reason = Some r; packet = q }))
  rejects p q r not = refused_treats (λ o _. by_item (s o)) o class p q r not.0 not.1

module _ {O : Type 0} (makes : O → FlowItem → FlowOutput → Type 0) (ready : O → Type 0) (o : O) (fit : ready o) (class : Class) where
  pub relation_passes : (p q : PacketModel) (out out' : Outlet) → makes o (work_item class p) (left_by (work_item class p) (Ok (packet_item q))) → keyed q ≡ keyed p
      → Grows out out' (record { passed = record { dir = class.dir; packet = q } ∷ []; dropped = []; consumed = [] }) → out'.spare ≡ out.spare
      → Stepped (never_fails (λ (o : O) flow came left. EachMade (makes o) came.items left) ready) o o class p out out' (Ok tt)
  relation_passes p q out out' made same grows spare =
      step_passes (λ (o : O) flow came left. EachMade (makes o) came.items left) ready o fit class p q out out' same grows spare
      (each_goes makes o (flow_of class) (work_item class p) (left_by (work_item class p) (Ok (packet_item q))) made)

  pub relation_drops : (p q : PacketModel) (r : Reason) (out out' : Outlet) → makes o (work_item class p) (left_by (work_item class p) (Err (reason_view r))) → q ≡ p
      → Grows out out' (record { passed = []; dropped = record { reason = Some r; packet = q } ∷ []; consumed = [] }) → out'.spare ≡ out.spare
      → Stepped (never_fails (λ (o : O) flow came left. EachMade (makes o) came.items left) ready) o o class p out out' (Ok tt)
  relation_drops p q r out out' made same grows spare =
      step_drops (λ (o : O) flow came left. EachMade (makes o) came.items left) ready o fit class p p r out out' refl
      (subst (λ (x : PacketModel). Grows out out' (record { passed = []; dropped = record { reason = Some r; packet = x } ∷ []; consumed = [] })) same grows) spare
      (each_goes makes o (flow_of class) (work_item class p) (left_by (work_item class p) (Err (reason_view r))) made)

  pub relation_ends : (records : ℕ) (out : Outlet) → Finished (never_fails (λ (o : O) flow came left. EachMade (makes o) came.items left) ready) o o class records out out (Ok tt)
  relation_ends records out = end_adds_nothing (λ (o : O) flow came left. EachMade (makes o) came.items left) ready o fit class records out (each_rests makes o (flow_of class) records)
