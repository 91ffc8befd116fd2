use Rattle.chain_spec.proofs.Walks.{long_is_refused}
use Rattle.chain_file.proofs.laws.long_refused.Goals as goal

pub returns : goal.returns
returns c = long_is_refused
