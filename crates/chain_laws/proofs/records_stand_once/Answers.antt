use Rattle.chain_laws.proofs.Keys.{records_once}
use Rattle.chain_laws.proofs.records_stand_once.Goals as goal

pub returns : goal.returns
returns c = records_once
