use Rattle.work_parts.proofs.Sharing.{workers_have_no_flow}
use Rattle.work_parts.proofs.laws.workers_have_no_flow.Goals as goal

pub returns : goal.returns
returns c = workers_have_no_flow
