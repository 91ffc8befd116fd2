use Rattle.std.proofs.Common.{◌≡◌, ◌++◌, List, length, map, reverse, None, vec_capacity}
use Rattle.brick_base.specs.Flow.{flow_of}
use Rattle.batch_ops.specs.declared.outlet.Passed.{Passed}
use Rattle.batch_ops.specs.Outlet.{passed_item}
use Rattle.chain_nodes.specs.Desk.{passed_buffer}
use Rattle.chain_nodes.specs.Node.{Took}
use Rattle.chain_nodes.proofs.pipe.pass_each.Given as goal

-- the first of them were taken, and the others wait in reverse
abbrev pub invariant-each : goal.invariant-each
invariant-each g l =
    let n = g.N.Node in
    (done : List Passed) × (rest : List Passed) × (l.fn.waiting.items ≡ done ++ rest) × (l.waiting.items ≡ reverse rest) × (vec_capacity l.waiting ≡ vec_capacity l.fn.waiting)
    × Took n.stands n.makes n.results n.serves l.fn.next l.next (flow_of l.fn.class) (map passed_buffer done) (map passed_item done) None l.fn.desk l.desk l.outcome

abbrev pub decreases-each : goal.decreases-each
decreases-each g l = length l.waiting.items
