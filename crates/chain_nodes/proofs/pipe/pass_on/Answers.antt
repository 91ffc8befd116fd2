use Rattle.std.proofs.Common.{rules, ◌≡◌, [], map, refl, ap, sym, None, Ok}
use Rattle.std.proofs.lemmas.List.{nil_from_length}
use Rattle.brick_base.specs.Flow.{flow_of}
use Rattle.batch_ops.specs.Outlet.{passed_item}
use Rattle.chain_nodes.specs.Desk.{passed_buffer}
use Rattle.chain_nodes.proofs.Desks.{took_nothing, took_as}
use Rattle.chain_nodes.proofs.pipe.pass_on.Goals as goal

pub returns-then-is_empty-clause-took : goal.returns-then-is_empty-clause-took
returns-then-is_empty-clause-took g c =
    let n = g.N.Node in
    let flow = flow_of c.args.class.now in
    let none : c.args.waiting.now.items ≡ [] = nil_from_length c.args.waiting.now.items (search rules) in
    took_as n.stands n.makes n.results n.serves c.args.next.now c.args.next.now flow [] (map passed_buffer c.args.waiting.now.items) [] (map passed_item c.args.waiting.now.items) None c.args.desk.now c.args.desk.now (Ok tt) (Ok tt)
    (sym (ap (map passed_buffer) none)) (sym (ap (map passed_item) none)) refl (took_nothing n.stands n.makes n.results n.serves c.args.next.now flow c.args.desk.now c.requires.rest)
