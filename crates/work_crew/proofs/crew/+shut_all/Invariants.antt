use Rattle.std.proofs.Common.{length}
use Rattle.work_crew.proofs.crew.+shut_all.Given as goal

abbrev pub decreases-shut_all : goal.decreases-shut_all
decreases-shut_all g l = length l.crew.lanes.items
