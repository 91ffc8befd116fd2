use Rattle.std.proofs.Common.{arith}
use Rattle.lane_table.proofs.Starts.{new_at}
use Rattle.lane_table.proofs.lane.TableLane.start.Goals as goal

pub returns-clause-workers : goal.returns-clause-workers
returns-clause-workers c = λ w x at. new_at c.in_ok-lane.lane 0 w w c.in_ok-workers.workers.items x c.in_ok-workers.ensures.workers at (omega arith)
