use Rattle.std.proofs.Common.{◌∷◌, ◌∙◌, [], length-append, refl, ap, sym, arith}
use Rattle.work_core.specs.Outputs.{item_lists}
use Rattle.work_parts.specs.Wholes.{side_by_side, behind_at}
use Rattle.work_parts.proofs.Sides.{side_more, side_nil}
use Rattle.work_parts.proofs.whole.append_groups.Goals as goal

pub loop-group-init : goal.loop-group-init
loop-group-init c = (refl, sym (side_nil (item_lists c.args.lists.now.items)))

pub loop-group-preserved : goal.loop-group-preserved
loop-group-preserved c =
    let v = c.loop-group.invariant in
    let g = c.in-Some.group in
    let old = item_lists c.args.lists.now.items in (
      omega (arith, v.0, length-append c.loop-group.yielded (g ∷ [])),
      c.in_ok-append_at.ensures ∙ (ap (λ ls. behind_at c.loop-group.place g ls) v.1 ∙ (ap (λ n. behind_at n g (side_by_side old c.loop-group.yielded)) v.0 ∙ sym (side_more old c.loop-group.yielded g))),
    )
