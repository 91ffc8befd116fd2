use Rattle.chain_file.proofs.Facts.{within_right}
use Rattle.chain_file.proofs.below.within.Goals as goal

pub returns-clause-right : goal.returns-clause-right
returns-clause-right c = within_right c.args.leaves.items c.requires.count.0 c.requires.count.1 c.requires.distinct
