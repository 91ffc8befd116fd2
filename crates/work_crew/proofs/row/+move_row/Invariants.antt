use Rattle.std.proofs.Common.{length}
use Rattle.work_crew.proofs.row.+move_row.Given as goal

abbrev pub decreases-move_row : goal.decreases-move_row
decreases-move_row g l = length l.row.now.seats.items
