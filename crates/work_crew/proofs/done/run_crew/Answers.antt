use Rattle.std.proofs.Common.{sym, ap, ◌∙◌}
use Rattle.std.specs.Prelude.{slice_get}
use Rattle.work_crew.proofs.done.run_crew.Goals as goal

pub run_jobs-requires-clause-works : goal.run_jobs-requires-clause-works
run_jobs-requires-clause-works g c κs within = λ t x y at at'. c.requires.works t x y (ap (λ l. slice_get l t) (sym c.deref.ensures.value) ∙ at) at'

pub returns-clause-done : goal.returns-clause-done
returns-clause-done g c = rw c.deref.ensures.value at c.run_jobs.ensures.done
