-- A stage of one type as one of another.
use Rattle.std.proofs.Common.{◌≡◌, List, sym, subst, ◌∙◌, ap}
use Rattle.brick_spec.specs.Flow.{Flow}
use Rattle.brick_spec.specs.FlowStage.{FlowItem, FlowStage}
use Rattle.brick_base.specs.Flow.{flow_of}
use Rattle.brick_base.specs.declared.flow.Class.{Class}
use Rattle.packet_owner.specs.Packet.{PacketModel}
use Rattle.batch_ops.specs.Operator.{work_item}
use Rattle.batch_ops.specs.Treat.{Kind, Treated, Treats}

-- where the type's own words are those of the other
pub record Same {S T : Type 0} (k : Kind S) (j : Kind T) (put : S → T) : Type 0 where
  pub stage : (s : S) → j.stage (put s) ≡ k.stage s
  pub fits : (s : S) (flow : Flow) (items : List FlowItem) → k.fits s flow items → j.fits (put s) flow items
  pub fitted : (s : S) (flow : Flow) (items : List FlowItem) → j.fits (put s) flow items → k.fits s flow items
  pub failed : (s : S) → j.failed (put s) ≡ k.failed s

pub treats_as : {S T : Type 0} (k : Kind S) (j : Kind T) (put : S → T) → Same k j put → (t : T) (s s' : S) (class : Class) (p : PacketModel) (r : Treated) → t ≡ put s → Treats k s s' class p r → Treats j t (put s') class p r
treats_as k j put same t s s' class p r is h = subst (λ o. Treats j o (put s') class p r) (sym is) (record {
  kept = h.kept;
  on_item = λ kept before fit. h.on_item kept before (same.fitted s (flow_of class) before fit) ∙ ap (λ (f : Flow → FlowStage). (f (flow_of class)).on_item before (work_item class p)) (sym (same.stage s));
  fits = λ kept before fit. same.fits s' (flow_of class) _ (h.fits kept before (same.fitted s (flow_of class) before fit));
  others = λ other before differs fit. same.fits s' other before (h.others other before differs (same.fitted s other before fit));
  same = same.stage s' ∙ (h.same ∙ sym (same.stage s));
  lost = same.failed s' ∙ h.lost;
  stays_failed = λ gone. h.stays_failed (sym (same.failed s) ∙ gone);
})
