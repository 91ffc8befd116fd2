use Rattle.chain_laws.proofs.Keys.{keys_distinct}
use Rattle.chain_laws.proofs.keys_are_distinct.Goals as goal

pub returns : goal.returns
returns c = keys_distinct
