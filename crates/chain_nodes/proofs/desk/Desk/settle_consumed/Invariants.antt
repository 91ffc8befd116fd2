use Rattle.std.proofs.Common.{◌≡◌, ◌++◌, List, length, map}
use Rattle.packet_owner.specs.Packet.{PacketModel}
use Rattle.batch_ops.specs.Outlet.{buffer_of}
use Rattle.flow_work.specs.Buffers.{AreOut, Recycled}
use Rattle.chain_nodes.proofs.desk.Desk.settle_consumed.Given as goal

-- those that were taken out stood behind the others
abbrev pub invariant-each : goal.invariant-each
invariant-each l = (done : List PacketModel) × (l.fn.self.out.consumed.items ≡ l.self.out.consumed.items ++ done)
    × Recycled (map buffer_of done) l.fn.self.back l.self.back l.fn.self.out.spare l.self.out.spare
    × (l.self.counts ≡ l.fn.self.counts)
    × (l.self.out.passed ≡ l.fn.self.out.passed) × (l.self.out.dropped ≡ l.fn.self.out.dropped)

abbrev pub decreases-each : goal.decreases-each
decreases-each l = length l.self.out.consumed.items
