use Rattle.std.proofs.Common.{sym}
use Rattle.stage_text.proofs.Begins.{last_is}
use Rattle.stage_text.proofs.epochs.last_begin.Goals as goal

pub returns-in-Some : goal.returns-in-Some
returns-in-Some c = last_is c.args.before.now c.in-Some.change.now (sym c.in-Some.ensures.value)
