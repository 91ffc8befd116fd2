-- Packets that are translated where they lie.
use Rattle.std.proofs.Common.{◌≡◌, ℕ, List, length, Bool, true, false, nat_le, Option, Some, None, Result, Ok, Err, if◌then◌else◌, ap, sym, ◌∙◌}
use Rattle.std.specs.Prelude.{⊤, IfOk, IfErr}
use Rattle.brick_spec.specs.AddressTranslation.{by_rank, translated_frame}
use Rattle.brick_spec.specs.Flow.{Direction, Ends}
use Rattle.brick_spec.specs.FlowClass as flows
use Rattle.brick_spec.specs.Item.{Item}
use Rattle.brick_spec.specs.Layer.{ip4_layer}
use Rattle.brick_spec.specs.Stage.{Reason, NatFull}
use Rattle.brick_base.specs.Flow.{dir_view, flow_of}
use Rattle.brick_base.specs.Reason.{reason_view}
use Rattle.brick_base.specs.declared.drops.Reason as code
use Rattle.brick_base.specs.declared.flow.Class.{Class}
use Rattle.packet_owner.specs.Packet.{PacketModel, packet_item, with_bytes, with_frame}
use Rattle.packet_owner.proofs.Raw.{whole_with_bytes}
use Rattle.flow_key.specs.View.{plan_view}
use Rattle.flow_key.specs.declared.plan.NatPlan.{NatPlan}
use Rattle.read_row.specs.Read.{IsRead}
use Rattle.nat_port.specs.Translation.{translated_packet, frame_by_rank, translated_bytes}
use Rattle.nat_port.proofs.Layers.{translated_stays}

-- other bytes for all of the frame
framed : (q : PacketModel) (frame ws : List ℕ) → frame ≡ q.frame → length ws ≡ length frame → with_bytes q 0 ws ≡ with_frame q ws
framed q frame ws same long = whole_with_bytes q ws (long ∙ ap length same)

-- a frame with the same IPv4 layer
read_with : (q : PacketModel) (frame ws : List ℕ) → (is : IsRead q) → frame ≡ q.frame → length ws ≡ length frame → ip4_layer ws ≡ Some is.layer → IsRead (with_bytes q 0 ws)
read_with q frame ws is same long layer =
    let e = framed q frame ws same long in
    record { ethernet = is.ethernet; layer = is.layer; layers = ap (λ (x : PacketModel). x.layers) e ∙ is.layers; is = ap (λ (x : PacketModel). ip4_layer x.frame) e ∙ layer }

unwrapped : (a b : List ℕ) → Ok a ≡ (let r : Result (List ℕ) Reason = Ok b in r) → a ≡ b
unwrapped a b e = cc

layer_of : (plan : flows.NatPlan) (rank : Option ℕ) (first : Ends) (dir : Direction) (q : PacketModel) (ws : List ℕ) → (is : IsRead q) → frame_by_rank plan rank first dir q.frame ≡ Ok ws → ip4_layer ws ≡ Some is.layer
layer_of plan None first dir q ws is e = ap ip4_layer (sym (unwrapped q.frame ws e)) ∙ is.is
layer_of plan (Some rank) first dir q ws is e = at (nat_le plan.ports rank) e where
  at : (b : Bool) → (if b then Err NatFull else Ok (translated_frame plan first rank dir q.frame)) ≡ Ok ws → ip4_layer ws ≡ Some is.layer
  at true e = cc
  at false e = ap ip4_layer (sym (unwrapped (translated_frame plan first rank dir q.frame) ws e)) ∙ translated_stays plan first rank dir q.frame is.layer is.is

pub translated_read : (plan : NatPlan) (class : Class) (q : PacketModel) (frame ws : List ℕ) (r : Result ⊤ code.Reason) → IsRead q → frame ≡ q.frame → length ws ≡ length frame
    → IfOk r (λ _. translated_bytes plan class frame ≡ Ok ws) → IfErr r (λ e. (ws ≡ frame) × (translated_bytes plan class frame ≡ Err (reason_view e))) → IsRead (with_bytes q 0 ws)
translated_read plan class q frame ws (Ok done) is same long ok err =
    read_with q frame ws is same long (layer_of (plan_view plan) (flow_of class).rank (flow_of class).first (dir_view class.dir) q ws is (ap (translated_bytes plan class) (sym same) ∙ ok))
translated_read plan class q frame ws (Err e) is same long ok err = read_with q frame ws is same long (ap ip4_layer (err.0 ∙ same) ∙ is.is)

-- without a port for its rank the packet stays as it is
refused : (plan : flows.NatPlan) (rank : Option ℕ) (first : Ends) (dir : Direction) (i : Item) (r : Reason) → frame_by_rank plan rank first dir i.frame ≡ Err r → by_rank plan rank first dir i ≡ Err r
refused plan None first dir i r e = cc
refused plan (Some rank) first dir i r e = at (nat_le plan.ports rank) e where
  at : (b : Bool) → (if b then Err NatFull else Ok (translated_frame plan first rank dir i.frame)) ≡ Err r → (if b then Err NatFull else Ok (record i { frame = translated_frame plan first rank dir i.frame })) ≡ Err r
  at true e = let same : NatFull ≡ r = cc in ap (λ x. Err x) same
  at false e = cc

pub refused_read : (plan : NatPlan) (class : Class) (q : PacketModel) (frame ws : List ℕ) (r : Result ⊤ code.Reason) → frame ≡ q.frame → IfErr r (λ e. (ws ≡ frame) × (translated_bytes plan class frame ≡ Err (reason_view e)))
    → IfErr r (λ e. (with_bytes q 0 ws ≡ q) × (translated_packet plan class q ≡ Err (reason_view e)))
refused_read plan class q frame ws (Ok done) same err = err
refused_read plan class q frame ws (Err e) same err = (
  framed q frame ws same (ap length err.0) ∙ ap (with_frame q) (err.0 ∙ same),
  refused (plan_view plan) (flow_of class).rank (flow_of class).first (dir_view class.dir) (packet_item q) (reason_view e) (ap (translated_bytes plan class) (sym same) ∙ err.1),
)
