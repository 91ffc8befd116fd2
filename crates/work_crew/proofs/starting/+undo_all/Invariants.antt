use Rattle.std.proofs.Common.{length}
use Rattle.work_crew.proofs.starting.+undo_all.Given as goal

abbrev pub decreases-undo_all : goal.decreases-undo_all
decreases-undo_all g l = length l.lanes.items
