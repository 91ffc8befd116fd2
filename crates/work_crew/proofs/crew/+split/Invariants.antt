use Rattle.std.proofs.Common.{length}
use Rattle.work_crew.proofs.crew.+split.Given as goal

abbrev pub decreases-split : goal.decreases-split
decreases-split g l = length l.lanes.items
