use Rattle.std.proofs.Common.{length}
use Rattle.bricks_main.proofs.inline.+run_tenants.Given as goal

abbrev pub decreases-run_tenants : goal.decreases-run_tenants
decreases-run_tenants g l = length l.chains.now
