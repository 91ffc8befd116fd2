use Rattle.std.proofs.Common.{length}
use Rattle.work_crew.proofs.finishing.+number_all.Given as goal

abbrev pub decreases-number_all : goal.decreases-number_all
decreases-number_all g l = length l.lanes.items
