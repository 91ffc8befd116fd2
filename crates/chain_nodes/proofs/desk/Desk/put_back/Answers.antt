use Rattle.std.proofs.Common.{◌≡◌, ◌≤◌, ◌<◌, ℕ, nat_lt, true, false, arith, ap, ◌∙◌, ◌∷◌, [], ◌++◌, sym, subst}
use Rattle.std.proofs.lemmas.Bool.Decides.{nat_tests}
use Rattle.packet_owner.specs.Buffer.{BufferModel}
use Rattle.packet_owner.specs.Spare.{SpareModel, IsOut}
use Rattle.batch_ops.specs.Outlet.{buffer_of}
use Rattle.flow_work.specs.Buffers.{AreOut, Recycled}
use Rattle.flow_work.proofs.Buffers.{lent_is_out, lent_recycled}
use Rattle.chain_nodes.proofs.desk.Desk.put_back.Goals as goal

is_high : (n : ℕ) → 1024 ≤ n → nat_lt n 1024 ≡ false
is_high n h = grind (arith, nat_tests)

pub give-requires-clause-out : goal.give-requires-clause-out
give-requires-clause-out c =
    let high : nat_lt c.args.packet.slot 1024 ≡ false = is_high c.args.packet.slot (omega (arith, c.if-slot-lt1024.false, c.slot.ensures)) in
    subst (λ (b : BufferModel). IsOut c.args.self.now.out.spare b.slot) (sym c.into_buffer-else-slot-lt1024.ensures) (lent_is_out (buffer_of c.args.packet) c.args.self.now.back c.args.self.now.out.spare high c.requires).0

pub returns-else-slot-lt1024-clause-recycled : goal.returns-else-slot-lt1024-clause-recycled
returns-else-slot-lt1024-clause-recycled c =
    let high : nat_lt c.args.packet.slot 1024 ≡ false = is_high c.args.packet.slot (omega (arith, c.if-slot-lt1024.false, c.slot.ensures)) in
    lent_recycled (buffer_of c.args.packet) c.args.self.now.back c.args.self.now.out.spare c.give.new.self high
    (c.give.ensures ∙ ap (λ (b : BufferModel). record c.args.self.now.out.spare { free = c.args.self.now.out.spare.free ++ b.slot ∷ [] }) c.into_buffer-else-slot-lt1024.ensures)
