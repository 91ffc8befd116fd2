use Rattle.std.proofs.Common.{refl, ap, ◌∙◌, Some}
use Rattle.work_crew.proofs.crew.keep.Goals as goal

pub returns-in-Some-Ok-clause-kept : goal.returns-in-Some-Ok-clause-kept
returns-in-Some-Ok-clause-kept g c = (record { refused = c.in-Some-Ok.refused; works = c.args.works }, c.put.ensures.items, refl, c.in-Some-Ok.is ∙ ap Some c.in-Some-Ok.field-0-is)
