use Rattle.work_parts.proofs.Sharing.{flows_come_whole}
use Rattle.work_parts.proofs.laws.flows_come_whole.Goals as goal

pub returns : goal.returns
returns c = flows_come_whole
