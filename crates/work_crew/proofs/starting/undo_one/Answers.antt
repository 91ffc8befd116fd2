use Rattle.std.proofs.Common.{◌≡◌, [], sym, ap, ◌∙◌, subst, length, arith, Some, true, false}
use Rattle.std.specs.Prelude.{slice_get, All}
use Rattle.std.proofs.lemmas.Option.{slice_get-get_or, slice_get_within, get_or_from_slice_get}
use Rattle.work_crew.proofs.Members.{take_front}
use Rattle.work_crew.proofs.starting.undo_one.Goals as goal

pub end_unused-requires-clause-seats : goal.end_unused-requires-clause-seats
end_unused-requires-clause-seats g c κs within =
    subst (All (λ y. g.K.LaneKit.is_worker_of c.args.side.lane y × ((g.K.LaneKit.worker_facts y).held ≡ []) × ((g.K.LaneKit.worker_facts y).ended ≡ false))) (sym c.deref_mut.ensures.value) (λ k d below.
    let s = c.requires.started.seats k _ (slice_get-get_or c.args.side.workers.items k d below) in (s.0, s.1.held, s.1.ended))

pub shut-requires-clause-workers : goal.shut-requires-clause-workers
shut-requires-clause-workers g c = λ w x at.
    let e = c.end_unused.ensures in
    let front = take_front c.args.side.workers.len c.end_unused.new.workers _ (e.count ∙ (ap length c.deref_mut.ensures.value ∙ sym c.args.side.workers.ok.0)) in
    let at' : slice_get c.end_unused.new.workers w ≡ Some x = ap (λ l. slice_get l w) (sym front) ∙ at in
    let below = slice_get_within c.end_unused.new.workers w x at' in
    let is = get_or_from_slice_get c.end_unused.new.workers w x x at' in
    let o = subst (λ y. g.K.LaneKit.is_worker_of c.args.side.lane y × ((g.K.LaneKit.worker_facts y).held ≡ []) × ((g.K.LaneKit.worker_facts y).ended ≡ true)) is (e.over w x below) in
    let old = slice_get-get_or c.args.side.workers.items w x (let n = e.count in let v = ap length c.deref_mut.ensures.value in omega arith) in
    (o.0, e.places w _ x (ap (λ l. slice_get l w) c.deref_mut.ensures.value ∙ old) at' ∙ (c.requires.started.seats w _ old).1.place, o.2, o.1)
