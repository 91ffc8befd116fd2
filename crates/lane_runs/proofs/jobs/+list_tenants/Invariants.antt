use Rattle.std.proofs.Common.{length}
use Rattle.lane_runs.proofs.jobs.+list_tenants.Given as goal

abbrev pub decreases-list_tenants : goal.decreases-list_tenants
decreases-list_tenants l = length l.chains.items
