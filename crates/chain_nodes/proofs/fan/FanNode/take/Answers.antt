use Rattle.std.proofs.Common.{◌≡◌, ◌<◌, ◌∙◌, ◌∷◌, [], ℕ, List, length, None, Some, Option, refl, ap, sym, subst, set, arith}
use Rattle.std.specs.List.{position}
use Rattle.brick_spec.specs.GroupOutput.{group_of}
use Rattle.brick_base.specs.Flow.{flow_of}
use Rattle.batch_ops.specs.Outlet.{buffer_of}
use Rattle.batch_ops.specs.Operator.{work_item}
use Rattle.flow_spec.specs.Plan.{takes_by}
use Rattle.flow_work.proofs.Fans.{IsFirst, first_of, none_passes}
use Rattle.chain_nodes.proofs.Fanned.{fan_took, fan_dropped, first_below, all_at}
use Rattle.chain_nodes.proofs.fan.FanNode.take.Goals as goal

pub index_mut-requires : goal.index_mut-requires
index_mut-requires g c =
    let x = work_item c.args.class.now c.args.packet in
    let first = first_of (λ m. takes_by m x) c.args.self.now.groups c.in-Some.k (sym (c.in-Some.ensures ∙ ap (group_of c.args.self.now.groups) c.frame.ensures)) in
    omega (arith, first_below (λ m. takes_by m x) c.args.self.now.groups c.in-Some.k first, c.requires.serves.0)

pub returns-in-None : goal.returns-in-None
returns-in-None g c =
    let n = g.N.Node in
    let x = work_item c.args.class.now c.args.packet in
    let none = none_passes (λ m. takes_by m x) c.args.self.now.groups (sym (c.in-None.ensures ∙ ap (group_of c.args.self.now.groups) c.frame.ensures)) in
    fan_dropped n.stands n.makes n.results n.serves g.met.N.Node.holds (λ t. t.groups) (λ t. t.places.items) c.args.self.now (flow_of c.args.class.now) (buffer_of c.args.packet ∷ []) x c.args.desk.now c.drop_for.new.self c.requires.serves none c.drop_for.ensures.recycled c.drop_for.ensures.lists c.requires.rest c.drop_for.ensures.counts

pub returns-in-Some : goal.returns-in-Some
returns-in-Some g c =
    let n = g.N.Node in
    let x = work_item c.args.class.now c.args.packet in
    let first = first_of (λ m. takes_by m x) c.args.self.now.groups c.in-Some.k (sym (c.in-Some.ensures ∙ ap (group_of c.args.self.now.groups) c.frame.ensures)) in
    fan_took n.stands n.makes n.results n.serves g.met.N.Node.holds (λ t. t.groups) (λ t. t.places.items) c.args.self.now _ (flow_of c.args.class.now) (buffer_of c.args.packet ∷ []) x c.in-Some.k c.index_mut.result.now c.take.new.self c.args.desk.now c.take.new.desk c.take.result c.requires.serves.0 first c.index_mut.ensures.value refl refl c.take.ensures
