use Rattle.std.proofs.Common.{◌+◌, ◌-◌, ◌≤◌, get_or, [], arith}
use Rattle.std.proofs.lemmas.Option.{slice_get-get_or}
use Rattle.lpm_fw.specs.declared.routes.Route.{Route}
use Rattle.lpm_fw.proofs.Division.{divided_inside, divided_covered}
use Rattle.lpm_fw.proofs.cells.place.Goals as goal

abbrev zeros : Route
zeros = record { to = 0; bits = 0; via = [] }

pub returns-then-free-w-clause-placed : goal.returns-then-free-w-clause-placed
returns-then-free-w-clause-placed c a list from at is divided =
    let row = get_or c.args.rows.now c.args.k zeros in
    let there = slice_get-get_or c.args.rows.now c.args.k zeros c.requires.k in
    let small = c.requires.small row there in
    let least : c.args.w ≤ 32 - row.bits = c.if-free-w.true in
    divided_covered c.args.rows.now c.args.w a list from c.args.k c.part_of-part.result row c.args.divided.now.cells c.cover.new.cells c.args.divided.now.inside there c.part_of-part.ensures.address least (omega arith) c.part_of-part.ensures.part c.cover.ensures.here c.cover.ensures.others at is divided

pub returns-clause-placed : goal.returns-clause-placed
returns-clause-placed c a list from at is divided =
    let row = get_or c.args.rows.now c.args.k zeros in
    let there = slice_get-get_or c.args.rows.now c.args.k zeros c.requires.k in
    divided_inside c.args.rows.now c.args.w a list from c.args.k c.part_of-part.result row c.args.divided.now.cells c.args.divided.now.inside c.push.new.self there c.requires.k c.part_of-part.ensures.address c.if-free-w.false c.part_of-part.ensures.part c.in_ok-push.ensures.here c.in_ok-push.ensures.others at is divided
