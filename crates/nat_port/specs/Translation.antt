-- What a translation makes of a packet.
use Rattle.std.specs.Prelude.{ℕ, List, nat_le, Option, Some, None, Result, Ok, Err, if◌then◌else◌}
use Rattle.brick_spec.specs.Item.{Item}
use Rattle.brick_spec.specs.Stage.{Reason, NatFull}
use Rattle.brick_spec.specs.AddressTranslation.{translated, translated_frame}
use Rattle.brick_spec.specs.Flow.{Direction, Ends}
use Rattle.brick_spec.specs.FlowClass as flows
use Rattle.brick_base.specs.Flow.{dir_view, flow_of}
use Rattle.brick_base.specs.declared.flow.Class.{Class}
use Rattle.packet_owner.specs.Packet.{PacketModel, packet_item}
use Rattle.flow_key.specs.View.{plan_view}
use Rattle.flow_key.specs.declared.plan.NatPlan.{NatPlan}

-- the item that is made of a packet of a class, or why it is dropped
abbrev pub translated_packet : NatPlan → Class → PacketModel → Result Item Reason
translated_packet plan class p =
    translated (plan_view plan) (flow_of class) (record { dir = dir_view class.dir; item = packet_item p })

-- the frame that is made of one, of a flow with this rank, or of one without
abbrev pub frame_by_rank : flows.NatPlan → Option ℕ → Ends → Direction → List ℕ → Result (List ℕ) Reason
frame_by_rank plan None first dir frame = Ok frame
frame_by_rank plan (Some rank) first dir frame =
    if nat_le plan.ports rank then Err NatFull else Ok (translated_frame plan first rank dir frame)

abbrev pub translated_bytes : NatPlan → Class → List ℕ → Result (List ℕ) Reason
translated_bytes plan class frame =
    frame_by_rank (plan_view plan) (flow_of class).rank (flow_of class).first (dir_view class.dir) frame
