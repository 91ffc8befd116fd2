-- The jobs of the code as those of the definitions.
use Rattle.chain_types.specs.View.{chain_view}
use Rattle.run_spec.specs.Books.{Job}
use Rattle.work_core.specs.declared.job.TenantJob.{TenantJob}

-- A crew knows no number of a tenant, so 0 stands in its place. What is said of a Book does not read it.
abbrev pub job_view : TenantJob → Job
job_view j = record { number = 0; chain = chain_view j.chain; capture = j.capture }
