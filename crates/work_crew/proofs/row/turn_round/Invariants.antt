use Rattle.std.proofs.Common.{length}
use Rattle.work_crew.proofs.Rows.{HasMoved}
use Rattle.work_crew.proofs.row.turn_round.Given as goal

-- the rows so far were moved
abbrev pub invariant-each : goal.invariant-each
invariant-each g l = record {
  moved : HasMoved l.t (length l.fn.rows) (length l.fn.columns) l.fn.rows l.rows l.columns;
}
