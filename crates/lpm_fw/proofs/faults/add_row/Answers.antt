-- the map with the row that is added
use Rattle.lpm_fw.proofs.Firsts.{firsts_more, none_found}
use Rattle.lpm_fw.proofs.faults.add_row.Goals as goal

pub returns-in-Ok-clause-firsts : goal.returns-in-Ok-clause-firsts
returns-in-Ok-clause-firsts c before are len =
    firsts_more before c.args.row c.prefix_of.result c.args.r c.args.firsts.now c.insert.new.self c.prefix_of.ensures c.in-Ok.ensures.updates.0
    are len (none_found before c.args.row c.args.r c.fault_at.result (c.fault_at.ensures before are) c.in_default.not-Some)
