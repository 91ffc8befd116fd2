use Rattle.std.proofs.Common.{refl}
use Rattle.store_io.proofs.Log.{counted-push, counts_one-push}
use Rattle.store_io.proofs.memory.note.Goals as goal

pub returns-clause-counted : goal.returns-clause-counted
returns-clause-counted c = rw c.in_ok-push.ensures.items (counted-push c.args.log.now.items _ c.args.account c.args.name.now refl c.in_ok-from_str.ensures.ok)

pub returns-clause-one : goal.returns-clause-one
returns-clause-one c = rw c.in_ok-push.ensures.items (counts_one-push c.args.log.now.items _ c.args.account c.args.name.now refl c.in_ok-from_str.ensures.ok)
