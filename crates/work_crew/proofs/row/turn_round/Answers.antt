use Rattle.std.proofs.Common.{length, get_or, arith}
use Rattle.std.proofs.lemmas.Option.{slice_get-get_or, slice_get_within}
use Rattle.work_crew.proofs.Rows.{moved_more}
use Rattle.work_crew.proofs.row.turn_round.Goals as goal

pub each-preserved : goal.each-preserved
each-preserved g c =
    let h = c.each.invariant.moved in
    let lt = c.each-test.true in
    let n = h.rows_count in record {
      moved = moved_more c.each.t (length c.args.rows.now) (length c.args.columns.now) c.args.rows.now c.each.rows c.each.columns h c.requires.rows lt
          (get_or c.each.rows c.each.t c.index-rows-t.result) c.move_row.new.row (slice_get-get_or c.each.rows c.each.t c.index-rows-t.result (omega arith)) c.move_row.ensures.emptied c.move_row.new.columns
          c.move_row.ensures.count c.move_row.ensures.taken;
    }

pub returns-clause-rows : goal.returns-clause-rows
returns-clause-rows g c = λ u x at. let e = c.each-test.false in let n = c.each.invariant.moved.rows_count in let b = slice_get_within c.each.rows u x at in c.each.invariant.moved.emptied u x (omega arith) at

pub returns-clause-turned : goal.returns-clause-turned
returns-clause-turned g c = λ u w x y at_x at_y. let e = c.each-test.false in let b = slice_get_within c.args.rows.now u x at_x in c.each.invariant.moved.turned u w x y (omega arith) at_x at_y
