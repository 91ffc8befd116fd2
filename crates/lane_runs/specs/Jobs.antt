-- The tenants between the reading of their captures and the writing of their files.
use Rattle.std.specs.Prelude.{◌≡◌, ℕ, suc, Bool, true, false, List, [], ◌∷◌, ◌++◌}
use Rattle.brick_spec.specs.Files.{Files}
use Rattle.chain_spec.specs.ChainSet.{Chain}
use Rattle.run_spec.specs.Books.{Job}
use Rattle.run_spec.specs.Seen.{IsTenant, Captured}
use Rattle.tenant_files.specs.declared.inputs.TenantInput.{TenantInput}
use Rattle.tenant_files.specs.declared.inputs.TenantInput.TheVariants as input
use Rattle.lane_runs.specs.declared.jobs.Part.{Part}
use Rattle.lane_runs.specs.declared.jobs.Part.TheVariants as part
use Rattle.lane_runs.specs.declared.jobs.Tenant.{Tenant}

-- THE JOBS of the tenants whose captures were read whole

-- of tenant t
abbrev pub own_job : ℕ → Chain → TenantInput → List Job
own_job t chain (input.Whole c) = record { number = t; chain = chain; capture = c } ∷ []
own_job t chain input.TooLong = []
own_job t chain (input.Bad refusal) = []
own_job t chain input.Unread = []

-- of those from number t on
abbrev pub jobs_of : ℕ → List Chain → List TenantInput → List Job
jobs_of t (chain ∷ set) (i ∷ inputs) = own_job t chain i ++ jobs_of (suc t) set inputs
jobs_of t _ _ = []

-- without its number, which the lanes do not know
abbrev pub unnumbered : Job → Job
unnumbered j = record { number = 0; chain = j.chain; capture = j.capture }

-- THE TENANTS

abbrev pub is_whole : TenantInput → Bool
is_whole (input.Whole c) = true
is_whole input.TooLong = false
is_whole (input.Bad refusal) = false
is_whole input.Unread = false

-- the tenant's part, where its job would have this place
abbrev pub part_of : ℕ → TenantInput → Part
part_of k (input.Whole c) = part.Job k
part_of k input.TooLong = part.TooLong
part_of k (input.Bad refusal) = part.Bad refusal
part_of k input.Unread = part.Unread

-- the place of the next job
abbrev pub place_after : ℕ → TenantInput → ℕ
place_after k (input.Whole c) = suc k
place_after k input.TooLong = k
place_after k (input.Bad refusal) = k
place_after k input.Unread = k

-- each has the name of its chain and the part that its capture gives, where the first job has place k
abbrev pub AreTenants : ℕ → List Chain → List TenantInput → List Tenant → Type 0
AreTenants k [] [] [] = Unit {0}
AreTenants k (chain ∷ set) (i ∷ inputs) (w ∷ tenants) =
    (w.name ≡ chain.name) × (w.part ≡ part_of k i) × AreTenants (place_after k i) set inputs tenants
AreTenants k _ _ _ = ⊥

-- it is the tenant of its number, and its capture is read so
abbrev pub IsJob : List Chain → Files → Job → Type 0
IsJob set files j = IsTenant set j.number j.chain × Captured files j.chain.capture j.capture
