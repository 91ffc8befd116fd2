use Rattle.lane_queue.proofs.PoolKeeps.{takes, rests}
use Rattle.lane_queue.proofs.pool.take.Goals as goal

pub pop_as-requires-clause-rule : goal.pop_as-requires-clause-rule
pop_as-requires-clause-rule g c = (takes _ _ c.requires.may.0 c.requires.may.1, rests _ _ c.requires.may.1)
