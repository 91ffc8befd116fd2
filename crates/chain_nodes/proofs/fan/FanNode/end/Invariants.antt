use Rattle.brick_base.specs.Flow.{flow_of}
use Rattle.chain_nodes.proofs.Fanned.{EndedSoFar}
use Rattle.chain_nodes.proofs.fan.FanNode.end.Given as goal

abbrev pub invariant-each : goal.invariant-each
invariant-each g l =
    let n = g.N.Node in
    EndedSoFar n.stands n.makes n.results n.serves g.met.N.Node.holds (λ t. t.groups) (λ t. t.places.items) l.fn.self l.self l.k (flow_of l.fn.class) l.fn.records l.fn.desk l.desk l.outcome
