use Rattle.std.proofs.Common.{get_or, [], arith, subst}
use Rattle.std.proofs.lemmas.Option.{slice_get-get_or}
use Rattle.lpm_fw.specs.declared.routes.Route.{Route}
use Rattle.lpm_fw.specs.Cells.{IsAsLong}
use Rattle.lpm_fw.proofs.cells.longer.Goals as goal

abbrev zeros : Route
zeros = record { to = 0; bits = 0; via = [] }

pub returns-in-None-clause-longer : goal.returns-in-None-clause-longer
returns-in-None-clause-longer c =
    let there = slice_get-get_or c.args.rows.now c.args.k zeros c.requires.k in
    record {
      leads = λ w a leads row. (get_or c.args.rows.now c.args.k zeros, there, row (get_or c.args.rows.now c.args.k zeros) there);
      kept = λ bits long. absurd (subst (IsAsLong c.args.rows.now bits) c.in-None.is long);
      long = λ row at. (row, at, (omega arith));
    }
