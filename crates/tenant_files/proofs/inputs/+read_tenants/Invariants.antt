use Rattle.std.proofs.Common.{length}
use Rattle.tenant_files.proofs.inputs.+read_tenants.Given as goal

abbrev pub decreases-read_tenants : goal.decreases-read_tenants
decreases-read_tenants g l = length l.chains.now
