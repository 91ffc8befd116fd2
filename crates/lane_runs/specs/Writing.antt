-- What writing the files of tenants needs, and what it leaves of the others.
use Rattle.std.specs.Prelude.{◌≡◌, ℕ, suc, ◌≤◌, false, List, [], ◌∷◌, ◌++◌, length, slice_get, Some, Result, Ok, Err}
use Rattle.brick_base.specs.declared.memory.NoMemory.{NoMemory}
use Rattle.brick_spec.specs.Files.{Files, FaultCounts}
use Rattle.brick_spec.specs.Texts.{OthersStayOf}
use Rattle.chain_spec.specs.ChainSet.{Chain, file_names, run_files}
use Rattle.chain_types.specs.View.{chain_view}
use Rattle.run_spec.specs.Isolation.{Refusals}
use Rattle.run_spec.specs.Lanes.{numbers_in, numbers_read}
use Rattle.run_spec.specs.Report.{Line}
use Rattle.run_spec.specs.Seen.{Held}
use Rattle.run_spec.specs.Subject.{NoneTouched}
use Rattle.run_spec.specs.Tenants.{TenantsRan, TenantsMay}
use Rattle.work_core.specs.Made.{IsMade}
use Rattle.work_core.specs.declared.job.TenantDone.{TenantDone}
use Rattle.work_core.specs.declared.job.TenantJob.{TenantJob}
use Rattle.tenant_files.specs.Run.{CanRun}
use Rattle.tenant_files.specs.declared.inputs.TenantInput.{TenantInput}
use Rattle.tenant_files.specs.declared.inputs.TenantInput.TheVariants as input
use Rattle.lane_runs.specs.declared.jobs.Part.{Part}
use Rattle.lane_runs.specs.declared.jobs.Part.TheVariants as part
use Rattle.lane_runs.specs.declared.jobs.Tenant.{Tenant}
use Rattle.lane_runs.specs.Jobs.{is_whole, jobs_of}

-- what was made of a job is the tenant meaning, where the records are refused that it says
pub record IsDoneOf (job : TenantJob) (done : TenantDone) : Type 0 where
  pub records : length done.refused ≤ length job.capture.entries
  pub made : IsMade (chain_view job.chain) done.refused job.capture done

-- so of the job of this place, where the tenant has one
abbrev pub IsDoneAt : List TenantJob → List TenantDone → Part → Type 0
IsDoneAt jobs done (part.Job k) =
    (job : TenantJob) × (d : TenantDone) × (slice_get jobs k ≡ Some job) × (slice_get done k ≡ Some d) × IsDoneOf job d
IsDoneAt jobs done part.TooLong = Unit {0}
IsDoneAt jobs done (part.Bad refusal) = Unit {0}
IsDoneAt jobs done part.Unread = Unit {0}

-- The part is that of this chain and what reading its capture gave, and these records are refused.
abbrev pub IsReady : List TenantJob → List TenantDone → Chain → List ℕ → TenantInput → Part → Type 0
IsReady jobs done chain refused (input.Whole c) (part.Job k) =
    (job : TenantJob) × (d : TenantDone) × (slice_get jobs k ≡ Some job) × (slice_get done k ≡ Some d)
    × (chain_view job.chain ≡ chain) × (job.capture ≡ c) × (d.refused ≡ refused) × IsDoneOf job d
IsReady jobs done chain refused input.TooLong part.TooLong = Unit {0}
IsReady jobs done chain refused (input.Bad r) (part.Bad s) = r ≡ s
IsReady jobs done chain refused input.Unread part.Unread = Unit {0}
IsReady jobs done chain refused _ _ = ⊥

-- so of each tenant from number t on
abbrev pub AreReady : List TenantJob → List TenantDone → Refusals → ℕ → List Chain → List TenantInput → List Tenant
    → Type 0
AreReady jobs done refused t [] [] [] = Unit {0}
AreReady jobs done refused t (chain ∷ set) (i ∷ inputs) (w ∷ tenants) =
    (w.name ≡ chain.name) × IsReady jobs done chain (refused t) i w.part
    × AreReady jobs done refused (suc t) set inputs tenants
AreReady jobs done refused t _ _ _ = ⊥

-- these tenants may be written
pub record CanWrite (tells : Type 0) (out : List ℕ) (t : ℕ) (refused : Refusals) (set : List Chain)
    (inputs : List TenantInput) (first before : Held) (jobs : List TenantJob) (done : List TenantDone)
    (tenants : List Tenant) : Type 0 where
  pub can : CanRun tells out t set first before inputs
  pub ready : AreReady jobs done refused t set inputs tenants

-- no file of a tenant whose capture was not read whole is touched
abbrev pub UnreadStay : List ℕ → List Chain → List TenantInput → Files → Files → Type 0
UnreadStay out (chain ∷ set) (i ∷ inputs) before now =
    (is_whole i ≡ false → NoneTouched (file_names out chain) before now) × UnreadStay out set inputs before now
UnreadStay out _ _ before now = Unit {0}

-- WHAT WAS WRITTEN

-- each tenant was run, and its line stands behind the others; or memory ran out, and each may have written
abbrev pub WroteLines : Type 0 → List ℕ → ℕ → Refusals → List Chain → List TenantInput → FaultCounts → Held → Held
    → List Line → List Line → Result (Unit {0}) NoMemory → Type 0
WroteLines tells out t refused set inputs counts before now old new (Ok done) =
    (told : List Line) × (new ≡ old ++ told) × (numbers_read t told ≡ numbers_in (jobs_of t set inputs))
    × TenantsRan tells out counts refused t set before now told
WroteLines tells out t refused set inputs counts before now old new (Err no_memory) =
    tells → TenantsMay out refused t set before.files now.files

-- and whether or not it ran out, every name that is no file of theirs stays, and the files of those that were not read
-- whole
pub record WroteAll (tells : Type 0) (out : List ℕ) (t : ℕ) (refused : Refusals) (set : List Chain)
    (inputs : List TenantInput) (counts : FaultCounts) (before now : Held) (old new : List Line)
    (r : Result (Unit {0}) NoMemory) : Type 0 where
  pub lines : WroteLines tells out t refused set inputs counts before now old new r
  pub others : tells → OthersStayOf (run_files out set) before.files now.files
  pub unread : tells → UnreadStay out set inputs before.files now.files
