use Rattle.std.proofs.Common.{◌≡◌, ◌<◌, ◌∙◌, ◌∷◌, ◌++◌, [], ℕ, None, Some, Result, List, map, refl, ap, sym, subst, arith, append-nil, vec_capacity}
use Rattle.brick_base.specs.Flow.{flow_of}
use Rattle.batch_ops.specs.declared.outlet.Passed.{Passed}
use Rattle.batch_ops.specs.Outlet.{passed_item}
use Rattle.chain_nodes.specs.Desk.{passed_buffer}
use Rattle.batch_ops.proofs.Calls.{joined}
use Rattle.flow_work.specs.Buffers.{AreOut}
use Rattle.chain_nodes.proofs.Piped.{settle_out, passed_out, behind_serves, pipe_took, going_on}
use Rattle.chain_nodes.proofs.Desks.{took_as, took_both, out_none}
use Rattle.chain_nodes.proofs.Waits.{serves_on}
use Rattle.chain_nodes.proofs.pipe.PipeNode.end.Goals as goal

pub settle-requires : goal.settle-requires
settle-requires g c =
    let p = g.P.Operator in
    settle_out p.meaning c.args.self.now.path c.end-finished.new.self (flow_of c.args.class.now) [] [] (Some c.args.records) c.args.desk.now.out c.end-finished.new.out c.end-finished.result c.end-finished.ensures.effect c.requires.rest c.args.desk.now.back c.requires.out

pub pass_on-passed-requires-clause-serves : goal.pass_on-passed-requires-clause-serves
pass_on-passed-requires-clause-serves g c =
    let p = g.P.Operator in
    behind_serves p.meaning c.args.self.now.path c.end-finished.new.self (flow_of c.args.class.now) [] [] (Some c.args.records) c.args.desk.now.out c.end-finished.new.out c.end-finished.result c.end-finished.ensures.effect c.requires.rest c.args.desk.now.back c.requires.out
    c.settle.new.self.back c.settle.new.self.out.spare c.settle.ensures.recycled g.N.Node.serves g.met.N.Node.more c.args.self.now.next c.requires.serves.behind c.requires.serves.one_is_plain

pub pass_on-passed-requires-clause-out : goal.pass_on-passed-requires-clause-out
pass_on-passed-requires-clause-out g c =
    let p = g.P.Operator in
    subst (λ (v : List Passed). AreOut (map passed_buffer v) c.settle.new.self.back c.settle.new.self.out.spare) (sym (ap (λ v. v.items) (c.swap.ensures.x_after ∙ c.settle.ensures.passed)))
    (passed_out p.meaning c.args.self.now.path c.end-finished.new.self (flow_of c.args.class.now) [] [] (Some c.args.records) c.args.desk.now.out c.end-finished.new.out c.end-finished.result c.end-finished.ensures.effect c.requires.rest c.args.desk.now.back c.requires.out
    c.settle.new.self.back c.settle.new.self.out.spare c.settle.ensures.recycled)

pub end-ended-requires-clause-serves : goal.end-ended-requires-clause-serves
end-ended-requires-clause-serves g c =
    let p = g.P.Operator in
    let n = g.N.Node in
    let d = c.settle.new.self in
    let e = c.pass_on-passed.new.desk in
    let t = c.pass_on-passed.ensures.took in
    let was = behind_serves p.meaning c.args.self.now.path c.end-finished.new.self (flow_of c.args.class.now) [] [] (Some c.args.records) c.args.desk.now.out c.end-finished.new.out c.end-finished.result c.end-finished.ensures.effect c.requires.rest c.args.desk.now.back c.requires.out
    d.back d.out.spare c.settle.ensures.recycled n.serves g.met.N.Node.more c.args.self.now.next c.requires.serves.behind c.requires.serves.one_is_plain in
    serves_on n.serves g.met.N.Node.more c.pass_on-passed.new.next (map passed_buffer c.swap.new.x.items) d.back e.back d.out.spare e.out.spare t.recycled (t.stays d.out.spare.count d.out.spare.bytes _ refl was)

pub end-ended-requires-clause-out : goal.end-ended-requires-clause-out
end-ended-requires-clause-out g c =
    let p = g.P.Operator in
    let d = c.settle.new.self in
    let e = c.pass_on-passed.new.desk in
    out_none (map passed_buffer c.swap.new.x.items) d.back e.back d.out.spare e.out.spare
    (subst (λ (v : List Passed). AreOut (map passed_buffer v) d.back d.out.spare) (sym (ap (λ v. v.items) (c.swap.ensures.x_after ∙ c.settle.ensures.passed)))
    (passed_out p.meaning c.args.self.now.path c.end-finished.new.self (flow_of c.args.class.now) [] [] (Some c.args.records) c.args.desk.now.out c.end-finished.new.out c.end-finished.result c.end-finished.ensures.effect c.requires.rest c.args.desk.now.back c.requires.out
    d.back d.out.spare c.settle.ensures.recycled)) c.pass_on-passed.ensures.took.recycled

pub returns : goal.returns
returns g c =
    let p = g.P.Operator in
    let n = g.N.Node in
    let flow = flow_of c.args.class.now in
    let is = ap (λ v. v.items) (c.swap.ensures.x_after ∙ c.settle.ensures.passed) in
    let effect = c.end-finished.ensures.effect in
    let first = took_as n.stands n.makes n.results n.serves c.args.self.now.next c.pass_on-passed.new.next flow (map passed_buffer c.swap.new.x.items) (going_on c.end-finished.new.out) (map passed_item c.swap.new.x.items) (map passed_item c.end-finished.new.out.passed.items) None _ c.pass_on-passed.new.desk c.pass_on-passed.result c.pass_on-passed.result
    (ap (map passed_buffer) is) (ap (map passed_item) is) refl c.pass_on-passed.ensures.took in
    let two = took_as n.stands n.makes n.results n.serves c.args.self.now.next c.end-ended.new.self flow (going_on c.end-finished.new.out ++ []) (going_on c.end-finished.new.out) (map passed_item c.end-finished.new.out.passed.items ++ []) (map passed_item c.end-finished.new.out.passed.items) (Some c.args.records) _ c.end-ended.new.desk (joined c.pass_on-passed.result c.end-ended.result) c.both.result
    (append-nil (going_on c.end-finished.new.out)) (append-nil (map passed_item c.end-finished.new.out.passed.items)) (sym c.both.ensures)
    (took_both n.stands n.makes n.results n.serves g.met.N.Node.holds c.args.self.now.next c.pass_on-passed.new.next c.end-ended.new.self flow (going_on c.end-finished.new.out) [] (map passed_item c.end-finished.new.out.passed.items) [] (Some c.args.records) _ c.pass_on-passed.new.desk c.end-ended.new.desk c.pass_on-passed.result c.end-ended.result first c.end-ended.ensures) in
    let room : vec_capacity c.pass_on-passed.new.waiting ≡ vec_capacity c.end-finished.new.out.passed = c.pass_on-passed.ensures.room ∙ ap (λ v. vec_capacity v) (c.swap.ensures.x_after ∙ c.settle.ensures.passed) in
    let has : c.args.desk.now.out.spare.count < vec_capacity c.pass_on-passed.new.waiting = omega (arith, room, c.end-finished.new.out.passed_room, effect.moves.takes.count) in
    pipe_took p.meaning n.stands n.makes n.results n.serves (λ t. t.path) (λ t. t.next) (λ t. t.waiting.items) (λ t. vec_capacity t.waiting)
    c.args.self.now (record { path = c.end-finished.new.self; next = c.end-ended.new.self; waiting = c.pass_on-passed.new.waiting }) flow [] [] (Some c.args.records) c.args.desk.now c.settle.new.self _ c.end-ended.new.desk c.end-finished.new.out c.end-finished.result c.both.result c.both-2.result c.both-2.ensures
    effect c.requires.rest c.requires.out c.settle.ensures.recycled c.settle.ensures.counts refl refl refl two c.pass_on-passed.ensures.none has
