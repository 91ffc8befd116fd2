use Rattle.std.proofs.Common.{◌≡◌, ◌<◌, ◌∙◌, ◌++◌, ◌∷◌, ◌+◌, [], length, take, get_or, ap, sym, arith, length-append}
use Rattle.std.proofs.lemmas.List.{take_more, length-take-le}
use Rattle.std.proofs.lemmas.Iterator.Adapters.{YieldsList-from_vec}
use Rattle.std.proofs.lemmas.Iterator.Consumers.{YieldsList-turn}
use Rattle.work_core.specs.Outputs.{item_lists, grown, shared_out}
use Rattle.work_core.proofs.Shares.{shared_more}
use Rattle.work_core.proofs.outputs.share_out.Goals as goal

pub loop-group-preserved : goal.loop-group-preserved
loop-group-preserved c =
    let v = c.loop-group.invariant in
    let g = c.in-Some.group in
    let at = c.loop-group.at in
    let outs = c.args.outputs.now in
    let i = c.into_iter-group-iterator.ensures.into_iter_gives in
    let turn : length c.loop-group.yielded < length c.args.groups.items = (YieldsList-turn (YieldsList-from_vec {s = c.into_iter-group-iterator.result} c.args.groups.items i.0 (i.1 ∙ c.args.groups.ok.0)) c.loop-group.yielded c.loop-group.group-iterator c.loop-group.yielded_by c.next.result c.next.new.self g c.in-Some.is c.next.ensures.steps).0 in
    let below : at < length outs = omega (arith, turn, v.0, c.requires.many) in
    let many : at + 1 ≡ length (c.loop-group.yielded ++ g ∷ []) = omega (arith, v.0, length-append c.loop-group.yielded (g ∷ [])) in
    let alike : length (take at outs) ≡ length c.loop-group.yielded = omega (arith, v.0, length-take-le at outs (omega arith)) in (
      many,
      c.add_to.ensures.long ∙ v.1,
      c.in_ok-add_to.ensures.grown ∙ (ap (λ ls. grown (get_or outs at 0) g ls) v.2
          ∙ (sym (shared_more (take at outs) c.loop-group.yielded (item_lists c.args.lists.items) (get_or outs at 0) g alike)
          ∙ ap (λ os. shared_out os (c.loop-group.yielded ++ g ∷ []) (item_lists c.args.lists.items)) (sym (take_more outs at 0 below)))),
    )
