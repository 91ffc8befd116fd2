use Rattle.std.proofs.Common.{length, ℕ, ◌≤◌, ◌≡◌, ◌∙◌, ◌∷◌, ◌++◌, [], List, map, refl, ap, sym, subst, append-nil, append_assoc}
use Rattle.std.proofs.lemmas.List.{map-append}
use Rattle.batch_ops.specs.declared.batch.Work.{Work}
use Rattle.flow_work.specs.Buffers.{AreOut, work_buffer}
use Rattle.flow_work.proofs.Buffers.{out_front, out_after}
use Rattle.chain_nodes.specs.Work.{Handled}
use Rattle.chain_nodes.proofs.Worked.{handled_none, handled_both, turn_did, batch_out}
use Rattle.chain_nodes.proofs.work.NodeWork.turn.Goals as goal

split_at : (all done batch rest : List Work) (w : Work) → all ≡ done ++ batch → batch ≡ w ∷ rest → map work_buffer all ≡ map work_buffer done ++ (work_buffer w ∷ map work_buffer rest)
split_at all done batch rest w e h = ap (map work_buffer) (e ∙ ap (λ t. done ++ t) h) ∙ map-append work_buffer done (w ∷ rest)

pub each-init : goal.each-init
each-init g c =
    let n = g.N.Node in
    ([], refl, handled_none n.stands n.makes n.results n.serves g.met.N.Node.more c.args.self.now c.requires.ready)

pub handle-requires-clause-out : goal.handle-requires-clause-out
handle-requires-clause-out g c =
    let n = g.N.Node in
    let v = c.each.invariant in
    let w = c.in-Some.work in
    let rest = c.pop_front.new.self in
    let d = c.args.self.now.desk in
    let e = c.each.self.desk in
    let few : length c.args.batch.now ≤ 32 = subst (λ (n : ℕ). n ≤ 32) c.len-packets.ensures.value c.len-packets.ensures.most in
    let all = batch_out n.stands n.makes n.results n.serves g.met.N.Node.more c.args.self.now c.args.batch.now c.requires.ready c.requires.none_left few c.requires.own in
    out_front (work_buffer w ∷ []) (map work_buffer rest) e.back e.out.spare
    (out_after (map work_buffer v.0) (work_buffer w ∷ map work_buffer rest) d.back e.back d.out.spare e.out.spare (subst (λ bs. AreOut bs d.back d.out.spare) (split_at c.args.batch.now v.0 c.each.batch rest w v.1 c.in-Some.ensures) all) v.2.recycled)

pub each-preserved : goal.each-preserved
each-preserved g c =
    let n = g.N.Node in
    let v = c.each.invariant in
    let w = c.in-Some.work in
    let rest = c.pop_front.new.self in
    (v.0 ++ w ∷ [], v.1 ∙ (ap (λ t. v.0 ++ t) c.in-Some.ensures ∙ sym (append_assoc v.0 (w ∷ []) rest)), handled_both n.stands n.makes n.results n.serves g.met.N.Node.more c.args.self.now c.each.self c.handle.new.self v.0 (w ∷ []) v.2 c.handle.ensures)

pub returns-clause-turned : goal.returns-clause-turned
returns-clause-turned g c =
    let n = g.N.Node in
    let v = c.each.invariant in
    let all : c.args.batch.now ≡ v.0 = v.1 ∙ (ap (λ t. v.0 ++ t) c.in_default.ensures.0 ∙ append-nil v.0) in
    turn_did n.stands n.makes n.results n.serves g.met.N.Node.more c.args.self.now c.each.self c.args.batch.now c.take_over.new.self c.take_over.new.other c.requires.none_left c.requires.own
    (subst (λ (ws : List Work). Handled n.stands n.makes n.results n.serves c.args.self.now c.each.self ws) (sym all) v.2) c.take_over.ensures.here c.take_over.ensures.none_left
