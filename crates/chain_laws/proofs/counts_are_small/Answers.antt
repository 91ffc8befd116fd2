use Rattle.chain_laws.proofs.Counts.{counts_small}
use Rattle.chain_laws.proofs.counts_are_small.Goals as goal

pub returns : goal.returns
returns c = counts_small
