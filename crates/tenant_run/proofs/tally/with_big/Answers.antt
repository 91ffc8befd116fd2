use Rattle.std.proofs.Common.{sym, ◌∙◌}
use Rattle.tenant_run.proofs.Counts.{counts_with_big}
use Rattle.tenant_run.proofs.tally.with_big.Goals as goal

pub returns : goal.returns
returns c = λ rs bigs same many. counts_with_big c.args.drops c.args.big c.in-Some.all rs bigs (sym c.contains.ensures.value ∙ c.if-contains.false) c.in-Some.ensures.1 same many
