use Rattle.work_crew.specs.Crews.{AreNewWorks}
use Rattle.crew_cases.proofs.Lists.{across_more}
use Rattle.crew_cases.proofs.tests.setting.add_job.Goals as goal

pub returns : goal.returns
returns g c =
    let w = g.W.ChainWork in
    across_more (AreNewWorks w.follows w.ready w.stands w.ended w.broken c.args.workers) c.args.jobs.now.items c.push.new.self.items c.args.works.now.items c.push-2.new.self.items _ _
    c.in_ok-push.ensures.items c.in_ok-push-2.ensures.items c.requires c.in_ok-new.ensures
