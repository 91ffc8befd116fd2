use Rattle.std.proofs.Common.{◌≡◌, ◌<◌, ◌≤◌, ◌∙◌, [], ℕ, List, length, refl, ap, sym, subst, arith}
use Rattle.chain_nodes.proofs.Ends.{ending_none, ending_one, ending_all}
use Rattle.chain_nodes.proofs.work.NodeWork.end.Goals as goal

pub each-init : goal.each-init
each-init g c =
    let n = g.N.Node in
    ending_none n.stands n.makes n.results n.serves g.met.N.Node.more c.args.self.now c.args.records c.requires.ready c.requires.none_left

pub each-preserved : goal.each-preserved
each-preserved g c =
    let n = g.N.Node in
    let below : c.each.k < length c.each.self.flows.list.items = omega (arith, c.each-test.true, c.len-many.ensures, c.args.self.now.flows.list.ok.0, ap (λ f. length f.list.items) c.each.invariant.flows) in
    ending_one n.stands n.makes n.results n.serves g.met.N.Node.more c.args.self.now c.each.self c.end_flow.new.self c.each.k c.args.records c.index-class.result.now below c.index-class.ensures c.each.invariant c.end_flow.ensures

pub returns : goal.returns
returns g c =
    let n = g.N.Node in
    ending_all n.stands n.makes n.results n.serves g.met.N.Node.more c.args.self.now c.each.self c.each.k c.args.records (omega (arith, c.each-test.false, c.len-many.ensures, c.args.self.now.flows.list.ok.0)) c.each.invariant
