use Rattle.std.proofs.Common.{◌≡◌, length, ap, ◌∙◌, refl, arith}
use Rattle.work_crew.proofs.JobEnds.{placed_more, none_placed}
use Rattle.work_crew.proofs.finishing.+number_all.Goals as goal

pub returns-in-Some-clause-placed : goal.returns-in-Some-clause-placed
returns-in-Some-clause-placed g t c =
    placed_more c.args.lanes.items c.pop.new.self.items _ c.number_all.new.ends.items c.in-Some.lane _ c.in-Some.ensures.items c.put.ensures.items c.number_all.ensures.placed (c.len-job.ensures ∙ c.pop.new.self.ok.0) refl

pub returns-in_default-clause-placed : goal.returns-in_default-clause-placed
returns-in_default-clause-placed g t c =
    none_placed c.args.lanes.items c.args.ends.now.items c.requires.empty (let e = c.in_default.ensures.cases in let k = c.args.lanes.ok.0 in omega arith)
