use Rattle.chain_run.proofs.Balances.{balance_few}
use Rattle.chain_run.proofs.plain.balance_of.Goals as goal

pub new-requires-clause-later : goal.new-requires-clause-later
new-requires-clause-later c = (balance_few c.args.backends.now c.args.changes.now c.requires).1
