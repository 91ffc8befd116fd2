use Rattle.lane_queue.proofs.RingKeeps.{gets}
use Rattle.lane_queue.proofs.ring.pop.Goals as goal

pub pop_as-requires-clause-rule : goal.pop_as-requires-clause-rule
pop_as-requires-clause-rule g c = (gets _ _ c.requires.may, λ items views p at. tt)
