use Rattle.std.proofs.Common.{◌++◌, ◌∙◌, ap, arith}
use Rattle.work_core.specs.Outputs.{item_lists}
use Rattle.work_parts.specs.Wholes.{behind_at}
use Rattle.work_parts.proofs.Sides.{set_behind, push_behind}
use Rattle.work_parts.proofs.whole.append_at.Goals as goal

pub returns-in_ok-append : goal.returns-in_ok-append
returns-in_ok-append c =
    set_behind c.args.lists.now.items c.args.place c.index_mut.result.now c.append.new.self c.args.items (let l = c.if-place-len.true in let e = c.len.ensures in omega (arith, l, e)) c.index_mut.ensures.value
    (c.in_ok-append.ensures.items ∙ ap (λ xs. c.index_mut.result.now.items ++ xs) c.into_vec-items.ensures)

pub returns-in_ok-push : goal.returns-in_ok-push
returns-in_ok-push c =
    ap item_lists c.in_ok-push.ensures.items ∙ (push_behind c.args.lists.now.items c.args.place c.into_vec-items.result (let l = c.if-place-len.false in let e = c.len.ensures in omega (arith, l, e))
    ∙ ap (λ xs. behind_at c.args.place xs (item_lists c.args.lists.now.items)) c.into_vec-items.ensures)
