use Rattle.chain_laws.proofs.Counts.{leaves_no_more as law}
use Rattle.chain_laws.proofs.leaves_no_more.Goals as goal

pub returns : goal.returns
returns c = law
