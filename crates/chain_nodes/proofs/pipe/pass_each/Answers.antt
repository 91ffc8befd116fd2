use Rattle.std.proofs.Common.{◌∙◌, ◌∷◌, ◌++◌, [], map, reverse, refl, sym, reverse, None}
use Rattle.std.proofs.lemmas.List.{map-append, reverse-reverse}
use Rattle.brick_base.specs.Flow.{flow_of}
use Rattle.batch_ops.specs.Outlet.{passed_item}
use Rattle.chain_nodes.specs.Desk.{passed_buffer}
use Rattle.chain_nodes.proofs.Desks.{took_nothing, took_both, took_as}
use Rattle.chain_nodes.proofs.Waits.{next_waits, rest_waits, out_waits, serves_on}
use Rattle.chain_nodes.proofs.pipe.pass_each.Goals as goal

pub each-init : goal.each-init
each-init g c =
    let n = g.N.Node in
    ([], c.args.waiting.now.items, refl, c.reverse.ensures.items, c.reverse.ensures.capacity, took_nothing n.stands n.makes n.results n.serves c.args.next.now (flow_of c.args.class.now) c.args.desk.now c.requires.rest)

pub take-taken-requires-clause-serves : goal.take-taken-requires-clause-serves
take-taken-requires-clause-serves g c =
    let n = g.N.Node in
    let v = c.each.invariant in
    let d = c.args.desk.now in
    serves_on n.serves g.met.N.Node.more c.each.next (map passed_buffer v.0) d.back c.each.desk.back d.out.spare c.each.desk.out.spare v.5.recycled (v.5.stays d.out.spare.count d.out.spare.bytes _ refl c.requires.serves)

pub take-taken-requires-clause-out : goal.take-taken-requires-clause-out
take-taken-requires-clause-out g c =
    let v = c.each.invariant in
    let x = c.in-Some.field-0 in
    let d = c.args.desk.now in
    out_waits passed_buffer c.args.waiting.now.items v.0 v.1 c.pop.new.self.items x d.back c.each.desk.back d.out.spare c.each.desk.out.spare v.2 (next_waits c.each.waiting.items v.1 c.pop.new.self.items x v.3 c.in-Some.ensures.items) c.requires.out v.5.recycled

pub each-preserved : goal.each-preserved
each-preserved g c =
    let n = g.N.Node in
    let v = c.each.invariant in
    let x = c.in-Some.field-0 in
    let new = c.pop.new.self.items in
    let next = next_waits c.each.waiting.items v.1 new x v.3 c.in-Some.ensures.items in (
      v.0 ++ x ∷ [],
      reverse new,
      rest_waits c.args.waiting.now.items v.0 v.1 new x v.2 next,
      sym (reverse-reverse new),
      c.pop.ensures.capacity ∙ v.4,
      took_as n.stands n.makes n.results n.serves c.args.next.now c.take-taken.new.self (flow_of c.args.class.now) (map passed_buffer v.0 ++ passed_buffer x ∷ []) (map passed_buffer (v.0 ++ x ∷ [])) (map passed_item v.0 ++ passed_item x ∷ []) (map passed_item (v.0 ++ x ∷ [])) None c.args.desk.now c.take-taken.new.desk _ c.both-outcome.result
          (sym (map-append passed_buffer v.0 (x ∷ []))) (sym (map-append passed_item v.0 (x ∷ []))) (sym c.both-outcome.ensures)
          (took_both n.stands n.makes n.results n.serves g.met.N.Node.holds c.args.next.now c.each.next c.take-taken.new.self (flow_of c.args.class.now) (map passed_buffer v.0) (passed_buffer x ∷ []) (map passed_item v.0) (passed_item x ∷ []) None c.args.desk.now c.each.desk c.take-taken.new.desk c.each.outcome c.take-taken.result v.5 c.take-taken.ensures),
    )
