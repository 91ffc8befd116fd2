use Rattle.std.proofs.Common.{◌≡◌, ◌++◌, List, map, ap, sym, subst}
use Rattle.packet_owner.specs.Packet.{PacketModel}
use Rattle.packet_owner.specs.Buffer.{BufferModel}
use Rattle.batch_ops.specs.Outlet.{buffer_of}
use Rattle.flow_work.specs.Buffers.{AreOut, Recycled}
use Rattle.flow_work.proofs.Buffers.{out_front, out_after, recycled_both}
use Rattle.chain_nodes.specs.Desk.{dropped_buffer}
use Rattle.chain_nodes.proofs.desk.Desk.settle.Goals as goal

pub settle_dropped-requires : goal.settle_dropped-requires
settle_dropped-requires c =
    let d = c.args.self.now in
    out_front (map dropped_buffer d.out.dropped.items) (map buffer_of d.out.consumed.items) d.back d.out.spare c.requires

pub settle_consumed-requires : goal.settle_consumed-requires
settle_consumed-requires c =
    let d = c.args.self.now in
    let e = c.settle_dropped.new.self in
    subst (λ cs. AreOut (map buffer_of cs.items) e.back e.out.spare) (sym c.settle_dropped.ensures.consumed)
    (out_after (map dropped_buffer d.out.dropped.items) (map buffer_of d.out.consumed.items) d.back e.back d.out.spare e.out.spare c.requires c.settle_dropped.ensures.recycled)

pub returns-clause-recycled : goal.returns-clause-recycled
returns-clause-recycled c =
    let d = c.args.self.now in
    let e = c.settle_dropped.new.self in
    let f = c.settle_consumed.new.self in
    recycled_both (map dropped_buffer d.out.dropped.items) (map buffer_of d.out.consumed.items) d.back e.back f.back d.out.spare e.out.spare f.out.spare c.settle_dropped.ensures.recycled
    (subst (λ cs. Recycled (map buffer_of cs.items) e.back f.back e.out.spare f.out.spare) c.settle_dropped.ensures.consumed c.settle_consumed.ensures.recycled)
