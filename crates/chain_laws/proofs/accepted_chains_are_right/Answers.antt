use Rattle.chain_laws.proofs.Right.{accepted_right}
use Rattle.chain_laws.proofs.accepted_chains_are_right.Goals as goal

pub returns : goal.returns
returns c = accepted_right
