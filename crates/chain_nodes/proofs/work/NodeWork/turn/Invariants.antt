use Rattle.std.proofs.Common.{◌≡◌, ◌++◌, List, length}
use Rattle.batch_ops.specs.declared.batch.Work.{Work}
use Rattle.chain_nodes.specs.Work.{Handled}
use Rattle.chain_nodes.proofs.work.NodeWork.turn.Given as goal

-- those that were taken out have been handled
abbrev pub invariant-each : goal.invariant-each
invariant-each g l =
    let n = g.N.Node in
    (done : List Work) × (l.fn.batch ≡ done ++ l.batch) × Handled n.stands n.makes n.results n.serves l.fn.self l.self done

abbrev pub decreases-each : goal.decreases-each
decreases-each g l = length l.batch
