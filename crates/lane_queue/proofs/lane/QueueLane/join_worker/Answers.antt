use Rattle.std.proofs.Common.{ap, sym, ◌∙◌, arith, refl}
use Rattle.std.proofs.lemmas.Option.{slice_get_read}
use Rattle.lane_queue.specs.declared.ring_rule.RingView.{RingView}
use Rattle.lane_queue.proofs.Lists.{get_set_else}
use Rattle.lane_queue.proofs.PoolKeeps.{merges}
use Rattle.lane_queue.proofs.RingKeeps.{merges as ring_merges, dones}
use Rattle.lane_queue.proofs.lane.QueueLane.join_worker.Goals as goal

pub absorb-requires-clause-rule : goal.absorb-requires-clause-rule
absorb-requires-clause-rule c = let s = c.args.seat.now in merges _ _ _ _ s.may.0 s.may.1

pub absorb-requires-2-clause-queue : goal.absorb-requires-2-clause-queue
absorb-requires-2-clause-queue c = let l = c.args.self.now in let x = c.args.worker in let q = c.requires in let o = q.worker.0 in
    let there = slice_get_read _ _ x.place _ refl (let a = o.place in let b = l.count in omega arith) c.index-queue.ensures in
    let sender = q.ring x.place c.index-queue.result.now c.index_mut-both.result.now there (slice_get_read _ _ x.place _ refl (let a = o.place in let b = q.passes in omega arith) c.index_mut-both.ensures.value) refl in
    (sender.pass, (o.getter c.index-queue.result.now there).pass)

pub absorb-requires-2-clause-rule : goal.absorb-requires-2-clause-rule
absorb-requires-2-clause-rule c = let l = c.args.self.now in let x = c.args.worker in let q = c.requires in let o = q.worker.0 in
    let there = slice_get_read _ _ x.place _ refl (let a = o.place in let b = l.count in omega arith) c.index-queue.ensures in
    let sender = q.ring x.place c.index-queue.result.now c.index_mut-both.result.now there (slice_get_read _ _ x.place _ refl (let a = o.place in let b = q.passes in omega arith) c.index_mut-both.ensures.value) refl in
    let getter = o.getter c.index-queue.result.now there in
    ring_merges _ _ _ _ sender.about (ap (λ (v : RingView). v.about) sender.knows) (ap (λ (v : RingView). v.sends) sender.knows) (ap (λ (v : RingView). v.gets) getter.knows)

pub learn_as-requires-clause-queue : goal.learn_as-requires-clause-queue
learn_as-requires-clause-queue c = let l = c.args.self.now in let x = c.args.worker in let q = c.requires in let o = q.worker.0 in
    let there = slice_get_read _ _ x.place _ refl (let a = o.place in let b = l.count in omega arith) c.index-queue.ensures in
    let sender = q.ring x.place c.index-queue.result.now c.index_mut-both.result.now there (slice_get_read _ _ x.place _ refl (let a = o.place in let b = q.passes in omega arith) c.index_mut-both.ensures.value) refl in
    let e = c.absorb-2.ensures.queue in (e.0 ∙ sender.pass.0, e.2 ∙ sender.pass.1)

pub learn_as-requires-clause-rule : goal.learn_as-requires-clause-rule
learn_as-requires-clause-rule c = let l = c.args.self.now in let x = c.args.worker in let q = c.requires in let o = q.worker.0 in
    let there = slice_get_read _ _ x.place _ refl (let a = o.place in let b = l.count in omega arith) c.index-queue.ensures in
    let sender = q.ring x.place c.index-queue.result.now c.index_mut-both.result.now there (slice_get_read _ _ x.place _ refl (let a = o.place in let b = q.passes in omega arith) c.index_mut-both.ensures.value) refl in
    let e = c.absorb-2.ensures.rule in dones _ _ sender.about (ap (λ (v : RingView). v.about) e ∙ ap (λ (v : RingView). v.about) sender.knows) (ap (λ (v : RingView). v.sends) e) (ap (λ (v : RingView). v.gets) e)

pub returns-clause-same : goal.returns-clause-same
returns-clause-same c = let l = c.args.self.now in let x = c.args.worker in let q = c.requires in let o = q.worker.0 in
    let there = slice_get_read _ _ x.place _ refl (let a = o.place in let b = l.count in omega arith) c.index-queue.ensures in
    let sender = q.ring x.place c.index-queue.result.now c.index_mut-both.result.now there (slice_get_read _ _ x.place _ refl (let a = o.place in let b = q.passes in omega arith) c.index_mut-both.ensures.value) refl in
    let getter = o.getter c.index-queue.result.now there in let e = c.absorb-2.ensures.rule in let done = c.learn_as.ensures.rule.1 in
    sym (ap (λ (v : RingView). v.got) getter.knows) ∙ sym (ap (λ (v : RingView). v.got) e) ∙ sym (done (ap (λ (v : RingView). v.taken) e ∙ ap (λ (v : RingView). v.taken) getter.knows ∙ q.worker.1))
    ∙ ap (λ (v : RingView). v.sent) e ∙ ap (λ (v : RingView). v.sent) sender.knows

pub returns-clause-others : goal.returns-clause-others
returns-clause-others c = λ w ne. get_set_else c.args.seat.now.rings.items c.args.worker.place w c.learn_as.new.pass ne
