use Rattle.chain_nodes.proofs.Ends.{EndingSoFar}
use Rattle.chain_nodes.proofs.work.NodeWork.end.Given as goal

abbrev pub invariant-each : goal.invariant-each
invariant-each g l =
    let n = g.N.Node in
    EndingSoFar n.stands n.makes n.results n.serves g.met.N.Node.more l.fn.self l.self l.k l.fn.records
