use Rattle.std.proofs.Common.{◌≡◌, ◌<◌, ◌≤◌, ◌∙◌, ◌∷◌, [], ℕ, List, length, None, Some, refl, ap, sym, subst, set, arith}
use Rattle.brick_base.specs.Flow.{flow_of}
use Rattle.chain_nodes.proofs.Desks.{out_none}
use Rattle.chain_nodes.proofs.Waits.{serves_on}
use Rattle.chain_nodes.proofs.Fanned.{ended_none, ended_one, fan_ended, next_is, all_at}
use Rattle.chain_nodes.proofs.fan.FanNode.end.Goals as goal

pub each-init : goal.each-init
each-init g c =
    let n = g.N.Node in
    ended_none n.stands n.makes n.results n.serves g.met.N.Node.holds (λ t. t.groups) (λ t. t.places.items) c.args.self.now (flow_of c.args.class.now) c.args.records c.args.desk.now c.requires.rest

pub end-ended-requires-clause-serves : goal.end-ended-requires-clause-serves
end-ended-requires-clause-serves g c =
    let n = g.N.Node in
    let d = c.args.desk.now in
    let e = c.each.desk in
    let v = c.each.invariant in
    let x = c.index_mut.result.now in
    let below : c.each.k < length c.args.self.now.places.items = omega (arith, c.each-test.true, c.len-many.ensures, c.args.self.now.places.ok.0) in
    let is = next_is n.stands n.makes n.results n.serves g.met.N.Node.holds (λ t. t.groups) (λ t. t.places.items) c.args.self.now c.each.self c.each.k x (flow_of c.args.class.now) c.args.records d e c.each.outcome v below c.index_mut.ensures.value in
    let was = subst (λ m. n.serves m d.out.spare.count d.out.spare.bytes (length d.out.spare.free)) is (all_at (λ m. n.serves m d.out.spare.count d.out.spare.bytes (length d.out.spare.free)) c.args.self.now.places.items c.each.k x below c.requires.serves.1) in
    serves_on n.serves g.met.N.Node.more x [] d.back e.back d.out.spare e.out.spare v.recycled was

pub end-ended-requires-clause-out : goal.end-ended-requires-clause-out
end-ended-requires-clause-out g c =
    let d = c.args.desk.now in
    out_none [] d.back c.each.desk.back d.out.spare c.each.desk.out.spare c.requires.out c.each.invariant.recycled

pub each-preserved : goal.each-preserved
each-preserved g c =
    let n = g.N.Node in
    let below : c.each.k < length c.args.self.now.places.items = omega (arith, c.each-test.true, c.len-many.ensures, c.args.self.now.places.ok.0) in
    ended_one n.stands n.makes n.results n.serves g.met.N.Node.holds (λ t. t.groups) (λ t. t.places.items) c.args.self.now c.each.self _ c.each.k c.index_mut.result.now c.end-ended.new.self (flow_of c.args.class.now) c.args.records c.args.desk.now c.each.desk c.end-ended.new.desk c.each.outcome c.end-ended.result c.both-outcome.result
    c.both-outcome.ensures below c.index_mut.ensures.value refl refl c.each.invariant c.end-ended.ensures

pub returns : goal.returns
returns g c =
    let n = g.N.Node in
    fan_ended n.stands n.makes n.results n.serves g.met.N.Node.holds (λ t. t.groups) (λ t. t.places.items) c.args.self.now c.each.self c.each.k (flow_of c.args.class.now) c.args.records c.args.desk.now c.each.desk c.each.outcome c.requires.serves.0 (omega (arith, c.each-test.false, c.len-many.ensures, c.args.self.now.places.ok.0)) c.each.invariant
