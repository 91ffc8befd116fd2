use Rattle.chain_laws.proofs.Keys.{keys_once}
use Rattle.chain_laws.proofs.keys_stand_once.Goals as goal

pub returns : goal.returns
returns c = keys_once
