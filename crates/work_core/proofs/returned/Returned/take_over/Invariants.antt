use Rattle.std.proofs.Common.{length}
use Rattle.work_core.proofs.returned.Returned.take_over.Given as goal

abbrev pub decreases-each : goal.decreases-each
decreases-each l = length l.self
