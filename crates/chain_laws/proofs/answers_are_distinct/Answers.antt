use Rattle.chain_laws.proofs.Keys.{answers_distinct}
use Rattle.chain_laws.proofs.answers_are_distinct.Goals as goal

pub returns : goal.returns
returns c = answers_distinct
