-- What the chains of some tenants made of their captures, where the Books say which records were refused.
use Rattle.std.specs.Prelude.{List, [], ◌∷◌}
use Rattle.lane_spec.specs.LaneBook.{LaneBook}
use Rattle.run_spec.specs.Books.{Job, unsent_in}
use Rattle.work_core.specs.Made.{IsMade}
use Rattle.work_core.specs.declared.job.TenantDone.{TenantDone}

-- Of each job it is the tenant meaning of its chain and its capture, where the records are refused that the job's own
-- Book says.
abbrev pub AllMade : List Job → List LaneBook → List TenantDone → Type 0
AllMade [] [] [] = Unit {0}
AllMade (job ∷ jobs) (b ∷ bs) (d ∷ ds) = IsMade job.chain (unsent_in job b) job.capture d × AllMade jobs bs ds
AllMade _ _ _ = ⊥
