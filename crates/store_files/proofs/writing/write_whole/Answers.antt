use Rattle.std.proofs.Common.{◌≡◌, ◌++◌}
use Rattle.std.proofs.lemmas.List.{take-append-drop}
use Rattle.store_files.proofs.Loops.{front_written}
use Rattle.store_files.proofs.writing.write_whole.Goals as goal

pub returns-in_err-append-clause-at_most : goal.returns-in_err-append-clause-at_most
returns-in_err-append-clause-at_most g c = λ tells.
    let cut : c.split_at.result.0.now ++ c.split_at.result.1.now ≡ c.loop-rest.rest.now = rw (c.split_at.ensures.front, c.split_at.ensures.back) (take-append-drop _ _) in
    let appends = c.in_err-append.ensures.appends tells in
    front_written c.args.name.now c.args.text.now c.loop-rest.rest.now c.split_at.result.0.now c.split_at.result.1.now
    (g.S.Store.file c.args.store.now) (g.S.Store.file c.loop-rest.store) (g.S.Store.file c.append.new.self)
    (c.loop-rest.invariant.files tells) cut appends.at_most
