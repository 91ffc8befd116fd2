use Rattle.std.proofs.Common.{◌∙◌, ◌++◌, ap}
use Rattle.work_core.proofs.Shares.{grown_at}
use Rattle.work_core.proofs.outputs.add_to.Goals as goal

pub returns-clause-grown : goal.returns-clause-grown
returns-clause-grown c =
    grown_at c.args.lists.now.items c.args.output c.index_mut.result.now c.append_items.new.list c.args.items c.requires c.index_mut.ensures.value
    (c.in_ok-append_items.ensures ∙ ap (λ xs. c.index_mut.result.now.items ++ xs) c.into_vec.ensures)
