use Rattle.std.proofs.Common.{◌≡◌, ◌++◌, List, length, map, flat_map}
use Rattle.batch_ops.specs.declared.outlet.Dropped.{Dropped}
use Rattle.batch_ops.specs.Outlet.{drops_of}
use Rattle.flow_work.specs.Buffers.{AreOut, Recycled}
use Rattle.flow_work.specs.Log.{CountsMore}
use Rattle.chain_nodes.specs.Desk.{dropped_buffer}
use Rattle.chain_nodes.proofs.desk.Desk.settle_dropped.Given as goal

-- those that were taken out stood behind the others
abbrev pub invariant-each : goal.invariant-each
invariant-each l = (done : List Dropped) × (l.fn.self.out.dropped.items ≡ l.self.out.dropped.items ++ done)
    × Recycled (map dropped_buffer done) l.fn.self.back l.self.back l.fn.self.out.spare l.self.out.spare
    × CountsMore l.fn.self.counts l.self.counts (flat_map drops_of done)
    × (l.self.out.passed ≡ l.fn.self.out.passed) × (l.self.out.consumed ≡ l.fn.self.out.consumed)

abbrev pub decreases-each : goal.decreases-each
decreases-each l = length l.self.out.dropped.items
