use Rattle.std.proofs.Common.{refl}
use Rattle.brick_base.specs.Flow.{flow_of}
use Rattle.chain_nodes.proofs.Ends.{flow_failed, flow_took}
use Rattle.chain_nodes.proofs.work.NodeWork.end_flow.Goals as goal

pub returns-then-self : goal.returns-then-self
returns-then-self g c =
    let n = g.N.Node in
    flow_failed n.stands n.makes n.results n.serves g.met.N.Node.more c.args.self.now (flow_of c.args.class) c.args.records c.requires.ready c.if-self.true

pub returns : goal.returns
returns g c =
    let n = g.N.Node in
    flow_took n.stands n.makes n.results n.serves g.met.N.Node.more c.args.self.now _ (flow_of c.args.class) c.args.records c.end-ended.result c.requires.ready c.requires.out c.if-self.false c.is_err-self.ensures.value refl refl c.end-ended.ensures
