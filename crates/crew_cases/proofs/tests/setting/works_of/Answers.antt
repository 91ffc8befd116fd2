use Rattle.work_crew.specs.Worked.{IsNewWork}
use Rattle.crew_cases.proofs.Lists.{works_more}
use Rattle.crew_cases.proofs.tests.setting.works_of.Goals as goal

pub each-preserved : goal.each-preserved
each-preserved g c =
    let w = g.W.ChainWork in
    let e = c.in_ok-work.ensures in
    let new : IsNewWork w.ready w.stands w.ended w.broken c.in_ok-work.work = record { usable = e.ready; nothing = e.begins; open_work = e.open_work; works = e.works } in
    works_more w.follows w.ready w.stands w.ended w.broken c.args.job.now c.each.done c.each.works c.push.new.self c.in_ok-work.work c.in_ok-push.ensures.items c.each.invariant e.follows new
