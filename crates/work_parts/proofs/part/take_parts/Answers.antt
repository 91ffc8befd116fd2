use Rattle.std.proofs.Common.{◌≡◌, ◌∙◌, false, length, sym, subst}
use Rattle.std.proofs.lemmas.Iterator.Adapters.{YieldsList-from_vec}
use Rattle.std.proofs.lemmas.Iterator.Consumers.{YieldsList-turn}
use Rattle.work_parts.specs.Works.{IsOpen}
use Rattle.work_parts.proofs.Works.{all_at, all_more, parts_pushed}
use Rattle.work_parts.proofs.part.take_parts.Goals as goal

pub take_part-requires-clause-ready : goal.take_part-requires-clause-ready
take_part-requires-clause-ready g c lifetimes alive =
    let w = g.W.ChainWork in
    let work = c.in-Some.work in
    let i = c.into_iter-work-iterator.ensures.into_iter_gives in
    let turn = YieldsList-turn (YieldsList-from_vec {s = c.into_iter-work-iterator.result} c.args.works.items i.0 (i.1 ∙ c.args.works.ok.0)) c.loop-work.yielded c.loop-work.work-iterator c.loop-work.yielded_by c.next.result c.next.new.self work c.in-Some.is c.next.ensures.steps in
    (subst (IsOpen w.ready w.ended) (sym turn.1) (all_at (IsOpen w.ready w.ended) c.args.works.items (length c.loop-work.yielded) work turn.0 c.requires)).0

pub take_part-requires-clause-open_work : goal.take_part-requires-clause-open_work
take_part-requires-clause-open_work g c lifetimes alive =
    let w = g.W.ChainWork in
    let work = c.in-Some.work in
    let i = c.into_iter-work-iterator.ensures.into_iter_gives in
    let turn = YieldsList-turn (YieldsList-from_vec {s = c.into_iter-work-iterator.result} c.args.works.items i.0 (i.1 ∙ c.args.works.ok.0)) c.loop-work.yielded c.loop-work.work-iterator c.loop-work.yielded_by c.next.result c.next.new.self work c.in-Some.is c.next.ensures.steps in
    (subst (IsOpen w.ready w.ended) (sym turn.1) (all_at (IsOpen w.ready w.ended) c.args.works.items (length c.loop-work.yielded) work turn.0 c.requires)).1

pub loop-work-preserved : goal.loop-work-preserved
loop-work-preserved g c =
    let w = g.W.ChainWork in
    let v = c.loop-work.invariant in (
      parts_pushed w.follows w.stands w.answer c.args.records c.loop-work.yielded c.loop-work.parts.items c.push.new.self.items c.in-Some.work c.in_ok-part.part c.in_ok-push.ensures.items v.0 c.in_ok-part.ensures.part,
      all_more (λ work. w.broken work ≡ false) c.loop-work.yielded c.in-Some.work v.1 c.in_ok-part.ensures.works,
    )
