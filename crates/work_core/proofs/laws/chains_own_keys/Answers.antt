use Rattle.work_core.proofs.ChainKeys.{chains_own}
use Rattle.work_core.proofs.laws.chains_own_keys.Goals as goal

pub returns : goal.returns
returns c = chains_own
