use Rattle.std.proofs.Common.{length}
use Rattle.lane_runs.proofs.writing.+write_tenants.Given as goal

abbrev pub decreases-write_tenants : goal.decreases-write_tenants
decreases-write_tenants g l = length l.tenants.now
