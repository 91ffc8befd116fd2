use Rattle.std.proofs.Common.{◌≡◌, ◌<◌, ◌∙◌, ◌∷◌, [], ℕ, None, Result, List, map, refl, ap, sym, subst, arith, vec_capacity}
use Rattle.std.specs.Prelude.{⊤}
use Rattle.brick_base.specs.Flow.{flow_of}
use Rattle.brick_base.specs.declared.memory.NoMemory.{NoMemory}
use Rattle.batch_ops.specs.declared.outlet.Passed.{Passed}
use Rattle.batch_ops.specs.Outlet.{keyed, passed_item}
use Rattle.chain_nodes.specs.Desk.{passed_buffer}
use Rattle.batch_ops.specs.Operator.{work_item}
use Rattle.batch_ops.proofs.Calls.{joined}
use Rattle.flow_work.specs.Buffers.{AreOut}
use Rattle.chain_nodes.specs.Node.{Took}
use Rattle.chain_nodes.proofs.Piped.{settle_out, passed_out, behind_serves, pipe_took, going_on}
use Rattle.chain_nodes.proofs.Desks.{took_as}
use Rattle.chain_nodes.proofs.Directs.{passed_took, dropped_took}
use Rattle.chain_nodes.proofs.pipe.PipeNode.take.Goals as goal

pub settle-requires : goal.settle-requires
settle-requires g c =
    let p = g.P.Operator in
    settle_out p.meaning c.args.self.now.path c.step-stepped.new.self (flow_of c.args.class.now) (keyed c.args.packet ∷ []) (work_item c.args.class.now c.args.packet ∷ []) None c.args.desk.now.out c.step-stepped.new.out c.step-stepped.result c.step-stepped.ensures.effect c.requires.rest c.args.desk.now.back c.requires.out

pub pass_on-passed-requires-clause-serves : goal.pass_on-passed-requires-clause-serves
pass_on-passed-requires-clause-serves g c =
    let p = g.P.Operator in
    behind_serves p.meaning c.args.self.now.path c.step-stepped.new.self (flow_of c.args.class.now) (keyed c.args.packet ∷ []) (work_item c.args.class.now c.args.packet ∷ []) None c.args.desk.now.out c.step-stepped.new.out c.step-stepped.result c.step-stepped.ensures.effect c.requires.rest c.args.desk.now.back c.requires.out
    c.settle.new.self.back c.settle.new.self.out.spare c.settle.ensures.recycled g.N.Node.serves g.met.N.Node.more c.args.self.now.next c.requires.serves.behind c.requires.serves.one_is_plain

pub pass_on-passed-requires-clause-out : goal.pass_on-passed-requires-clause-out
pass_on-passed-requires-clause-out g c =
    let p = g.P.Operator in
    subst (λ (v : List Passed). AreOut (map passed_buffer v) c.settle.new.self.back c.settle.new.self.out.spare) (sym (ap (λ v. v.items) (c.swap.ensures.x_after ∙ c.settle.ensures.passed)))
    (passed_out p.meaning c.args.self.now.path c.step-stepped.new.self (flow_of c.args.class.now) (keyed c.args.packet ∷ []) (work_item c.args.class.now c.args.packet ∷ []) None c.args.desk.now.out c.step-stepped.new.out c.step-stepped.result c.step-stepped.ensures.effect c.requires.rest c.args.desk.now.back c.requires.out
    c.settle.new.self.back c.settle.new.self.out.spare c.settle.ensures.recycled)

pub returns : goal.returns
returns g c =
    let p = g.P.Operator in
    let n = g.N.Node in
    let is = ap (λ v. v.items) (c.swap.ensures.x_after ∙ c.settle.ensures.passed) in
    let effect = c.step-stepped.ensures.effect in
    let two = took_as n.stands n.makes n.results n.serves c.args.self.now.next c.pass_on-passed.new.next (flow_of c.args.class.now) (map passed_buffer c.swap.new.x.items) (going_on c.step-stepped.new.out) (map passed_item c.swap.new.x.items) (map passed_item c.step-stepped.new.out.passed.items) None _ c.pass_on-passed.new.desk c.pass_on-passed.result c.pass_on-passed.result
    (ap (map passed_buffer) is) (ap (map passed_item) is) refl c.pass_on-passed.ensures.took in
    let room : vec_capacity c.pass_on-passed.new.waiting ≡ vec_capacity c.step-stepped.new.out.passed = c.pass_on-passed.ensures.room ∙ ap (λ v. vec_capacity v) (c.swap.ensures.x_after ∙ c.settle.ensures.passed) in
    let has : c.args.desk.now.out.spare.count < vec_capacity c.pass_on-passed.new.waiting = omega (arith, room, c.step-stepped.new.out.passed_room, effect.moves.takes.count) in
    pipe_took p.meaning n.stands n.makes n.results n.serves (λ t. t.path) (λ t. t.next) (λ t. t.waiting.items) (λ t. vec_capacity t.waiting)
    c.args.self.now (record { path = c.step-stepped.new.self; next = c.pass_on-passed.new.next; waiting = c.pass_on-passed.new.waiting }) (flow_of c.args.class.now) (keyed c.args.packet ∷ []) (work_item c.args.class.now c.args.packet ∷ []) None c.args.desk.now c.settle.new.self _ c.pass_on-passed.new.desk c.step-stepped.new.out c.step-stepped.result c.pass_on-passed.result c.both.result c.both.ensures
    effect c.requires.rest c.requires.out c.settle.ensures.recycled c.settle.ensures.counts refl refl refl two c.pass_on-passed.ensures.none has

pub returns-in-Ok : goal.returns-in-Ok
returns-in-Ok g c =
    let p = g.P.Operator in
    let n = g.N.Node in
    passed_took p.meaning n.stands n.makes n.results n.serves (λ t. t.path) (λ t. t.next) (λ t. t.waiting.items) (λ t. vec_capacity t.waiting)
    c.args.self.now (record { path = c.treat.new.self; next = c.take.new.self; waiting = c.args.self.now.waiting }) c.args.class.now c.args.packet c.in-Ok.packet c.args.desk.now c.take.new.desk c.take.result c.in-Ok.ensures c.take.ensures refl refl

pub returns-in-Err : goal.returns-in-Err
returns-in-Err g c =
    let p = g.P.Operator in
    let n = g.N.Node in
    let took = c.take_dropped.ensures in
    dropped_took p.meaning n.stands n.makes n.results n.serves (λ t. t.path) (λ t. t.next) (λ t. t.waiting.items) (λ t. vec_capacity t.waiting)
    c.args.self.now (record { path = c.treat.new.self; next = c.args.self.now.next; waiting = c.args.self.now.waiting }) c.args.class.now c.args.packet c.in-Err.dropped c.args.desk.now c.take_dropped.new.self c.take_dropped.result
    c.in-Err.ensures refl took.recycled took.lists took.counts took.lost c.requires.rest refl refl
