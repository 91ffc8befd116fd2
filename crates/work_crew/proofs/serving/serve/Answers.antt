use Rattle.work_crew.specs.JobView.{job_view}
use Rattle.work_crew.proofs.Serves.{slots_back, rooms_back, worked_on}
use Rattle.work_crew.proofs.serving.serve.Goals as goal

pub give_back-requires-clause-slots : goal.give_back-requires-clause-slots
give_back-requires-clause-slots g c κs within = slots_back c.turn.new.back c.gather-ended.new.batch _ c.turn.ensures.took.buffers c.gather-ended.ensures.gathered.held

pub give_back-requires-clause-rooms : goal.give_back-requires-clause-rooms
give_back-requires-clause-rooms g c κs within = rooms_back _ c.turn.new.back c.gather-ended.new.batch c.turn.ensures.took.buffers c.gather-ended.ensures.gathered.rooms

pub returns-clause-worked : goal.returns-clause-worked
returns-clause-worked g c = worked_on g.W.ChainWork.ready g.W.ChainWork.stands g.W.ChainWork.ended g.W.ChainWork.broken (job_view c.args.job.now) (g.K.LaneKit.lane_facts c.args.lane.now).bytes
    _ _ _ c.gather-ended.new.batch _ _ _ c.requires.worked c.gather-ended.ensures.gathered c.give_back.ensures.given
    c.turn.ensures.took.stays_ready c.turn.ensures.took.goes c.turn.ensures.took.still c.turn.ensures.took.stays_broken
