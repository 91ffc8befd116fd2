use Rattle.std.proofs.Common.{◌∙◌, refl}
use Rattle.work_crew.proofs.Crews.{crew_more}
use Rattle.work_crew.proofs.crew.+split.Goals as goal

pub returns-in-Some-pop-clause-crew : goal.returns-in-Some-pop-clause-crew
returns-in-Some-pop-clause-crew g t c =
    crew_more c.args.lanes.items c.pop.new.self.items c.args.works.items c.pop-in-Some.new.self.items c.split.new.crew _ c.in-Some.last c.in-Some-pop.row c.len-t.result
    c.in-Some.ensures.items c.in-Some-pop.ensures.items (c.len-t.ensures ∙ c.pop.new.self.ok.0) c.split.ensures.crew
    c.put.ensures.items _ refl refl c.put-in-Some-pop.ensures.items _ refl refl c.put-in-Some-pop-2.ensures.items
