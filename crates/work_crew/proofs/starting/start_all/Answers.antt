use Rattle.std.proofs.Common.{◌++◌, ap, ◌∙◌, arith}
use Rattle.work_crew.proofs.Unused.{part_books}
use Rattle.work_crew.proofs.starting.start_all.Goals as goal

pub returns-in-Err-clause-no_memory : goal.returns-in-Err-clause-no_memory
returns-in-Err-clause-no_memory g c =
    let r = c.undo_all.ensures.books in
    let n = r.2 in
    let f = c.start_each.ensures.few in
    (r.0, r.1 ∙ ap (λ l. l ++ r.0) c.start_each.ensures.books, part_books c.args.workers c.args.jobs.now r.0 (omega arith) r.3)
