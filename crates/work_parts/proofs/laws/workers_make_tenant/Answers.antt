use Rattle.work_parts.proofs.Tenants.{workers_make_tenant}
use Rattle.work_parts.proofs.laws.workers_make_tenant.Goals as goal

pub returns : goal.returns
returns c = workers_make_tenant c.chains_own_keys.ensures
