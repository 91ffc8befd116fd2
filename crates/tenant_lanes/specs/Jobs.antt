-- Jobs of tenants.
use Rattle.chain_types.specs.View.{chain_view}
use Rattle.run_spec.specs.Books.{Job}
use Rattle.tenant_lanes.specs.declared.job.TenantCapture.{TenantCapture}

-- the job of a tenant, whose number is not known here
abbrev pub job_of : TenantCapture → Job
job_of t = record { number = 0; chain = chain_view t.chain; capture = t.capture }
