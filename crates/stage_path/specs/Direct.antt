-- What treating a packet alone does, without an outlet.
use Rattle.std.specs.Prelude.{◌≡◌, [], ◌∷◌, None, true, false, Err}
use Rattle.brick_base.specs.Flow.{flow_of}
use Rattle.brick_base.specs.declared.flow.Class.{Class}
use Rattle.packet_owner.specs.Packet.{PacketModel}
use Rattle.batch_ops.specs.Outlet.{keyed, left_in}
use Rattle.batch_ops.specs.Operator.{Meaning, Extends, OthersStay, work_item}
use Rattle.batch_ops.specs.Treat.{Treated, treated_packet, was_lost, added_by}

-- what an operator did with a packet that it treated in the packet's own buffer: what a step does that adds this one
-- packet to its outlet
pub record TreatsDirectly {O : Type 0} (m : Meaning O) (old new : O) (class : Class) (p : PacketModel)
    (t : Treated) : Type 0 where
  -- the packet keeps its key and its buffer
  pub kept : keyed (treated_packet t) ≡ keyed p
  -- what it means
  pub goes : was_lost t ≡ false
      → Extends m.stands old new (flow_of class) (work_item class p ∷ []) None (left_in (added_by class.dir t))
  pub others : OthersStay m.stands old new (flow_of class)
  -- memory ran out where the packet was lost, and each one is lost from then on
  pub lost : m.failed new ≡ was_lost t
  pub stays_failed : m.failed old ≡ true → t ≡ Err (record { reason = None; packet = p })
  -- what no call changes
  pub same_spares : m.spares new ≡ m.spares old
  pub same_room : m.least_room new ≡ m.least_room old
  pub same_row : m.row new ≡ m.row old
  pub stays_ready : m.ready new
