use Rattle.work_parts.proofs.Leaves.{merged_has_leaves}
use Rattle.work_parts.proofs.laws.merged_has_leaves.Goals as goal

pub returns : goal.returns
returns c = merged_has_leaves
