use Rattle.std.proofs.Common.{◌≡◌, ◌+◌, [], ◌∷◌, length, get_or, ap, ◌∙◌, arith, length-append}
use Rattle.std.proofs.lemmas.Option.{slice_get-get_or}
use Rattle.work_crew.proofs.Rows.{row_taken, row_others}
use Rattle.work_crew.proofs.row.+move_row.Goals as goal

pub returns-in-Some-pop-clause-taken : goal.returns-in-Some-pop-clause-taken
returns-in-Some-pop-clause-taken g t c =
    let rest = c.pop.new.self.items in
    let last_is : c.len-w.result ≡ length rest = c.len-w.ensures ∙ c.pop.new.self.ok.0 in
    let more : length c.args.row.now.seats.items ≡ length rest + 1 = ap length c.in-Some.ensures.items ∙ length-append rest (c.in-Some.seat ∷ []) in
    let few = c.requires.few in
    let count = c.move_row.ensures.count in
    row_taken c.args.row.now.seats.items rest c.args.row.now.works.items c.pop-in-Some.new.self.items c.in-Some.seat c.in-Some-pop.work c.in-Some.ensures.items c.in-Some-pop.ensures.items c.requires.same
    c.args.columns.now c.move_row.new.columns c.len-w.result last_is (get_or c.move_row.new.columns c.len-w.result c.index-columns-w.result) c.take_in.new.row
    (slice_get-get_or c.move_row.new.columns c.len-w.result c.index-columns-w.result (omega arith)) c.take_in.ensures.taken c.move_row.ensures.others c.move_row.ensures.taken

pub returns-in-Some-pop-clause-others : goal.returns-in-Some-pop-clause-others
returns-in-Some-pop-clause-others g t c =
    let rest = c.pop.new.self.items in
    let last_is : c.len-w.result ≡ length rest = c.len-w.ensures ∙ c.pop.new.self.ok.0 in
    let more : length c.args.row.now.seats.items ≡ length rest + 1 = ap length c.in-Some.ensures.items ∙ length-append rest (c.in-Some.seat ∷ []) in
    let few = c.requires.few in
    let count = c.move_row.ensures.count in
    row_others c.args.row.now.seats.items rest c.args.row.now.works.items c.pop-in-Some.new.self.items c.in-Some.seat c.in-Some-pop.work c.in-Some.ensures.items c.in-Some-pop.ensures.items c.requires.same
    c.args.columns.now c.move_row.new.columns c.len-w.result last_is (get_or c.move_row.new.columns c.len-w.result c.index-columns-w.result) c.take_in.new.row
    (slice_get-get_or c.move_row.new.columns c.len-w.result c.index-columns-w.result (omega arith)) c.take_in.ensures.taken c.move_row.ensures.others
