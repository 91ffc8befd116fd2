-- the rows one by one
use Rattle.std.proofs.lemmas.Result.{err_from_is_err_and}
use Rattle.std.proofs.Common.{◌≡◌, ◌∙◌, ◌++◌, ◌∷◌, List, ℕ, ◌+◌, sym, arith, get_or, take, [], length, subst}
use Rattle.std.proofs.lemmas.Option.{slice_get-get_or}
use Rattle.std.proofs.lemmas.List.{take_more, length-take-le}
use Rattle.lpm_fw.specs.declared.routes.Route.{Route}
use Rattle.lpm_fw.specs.Firsts.{AreFirsts}
use Rattle.lpm_fw.proofs.FirstFault.{fault_found, right_more, all_right}
use Rattle.lpm_fw.proofs.faults.check.Goals as goal

abbrev zeros : Route
zeros = record { to = 0; bits = 0; via = [] }

pub returns-in_err-add_row-clause-fault : goal.returns-in_err-add_row-clause-fault
returns-in_err-add_row-clause-fault c =
    let inv = c.loop-r.invariant in
    let found = fault_found c.args.rows.now c.loop-r.r (get_or c.args.rows.now c.loop-r.r zeros) _
    (slice_get-get_or c.args.rows.now c.loop-r.r zeros c.loop-r-test.true) inv.1
    (c.in_err-add_row.ensures.fault (take c.loop-r.r c.args.rows.now) inv.0) in
    let p = err_from_is_err_and c.from_residual.result c.from_residual.ensures.1 in
    rw (p.1, p.2) found

pub loop-r-preserved : goal.loop-r-preserved
loop-r-preserved c =
    let inv = c.loop-r.invariant in
    let before = take c.loop-r.r c.args.rows.now in
    let row = get_or c.args.rows.now c.loop-r.r zeros in
    let within = c.loop-r-test.true in (
      subst (λ (rows : List Route). AreFirsts rows c.add_row.new.firsts) (sym (take_more c.args.rows.now c.loop-r.r zeros within))
          (c.in_ok-add_row.ensures.firsts before inv.0 (length-take-le c.loop-r.r c.args.rows.now (omega arith))),
      right_more c.args.rows.now c.loop-r.r row (slice_get-get_or c.args.rows.now c.loop-r.r zeros within) inv.1 (c.in_ok-add_row.ensures.right before inv.0),
    )

pub returns-clause-right : goal.returns-clause-right
returns-clause-right c = all_right c.args.rows.now c.loop-r.r c.loop-r.invariant.1 (let past = c.loop-r-test.false in omega arith)
