-- Lanes that are over, each with the number of its job.
use Rattle.std.specs.Prelude.{ℕ, ◌≡◌, ◌<◌, ◌≤◌, Bool, List, length, Option, Some, slice_get}
use Rattle.flow_spec.specs.Answer.{ClassedItem, Answer}
use Rattle.flow_spec.specs.Plan.{Plan}
use Rattle.lane_spec.specs.LaneBook.{LaneBook}
use Rattle.work_core.specs.declared.job.TenantDone.{TenantDone}
use Rattle.work_core.specs.declared.job.TenantJob.{TenantJob}
use Rattle.work_crew.specs.JobView.{job_view}
use Rattle.work_crew.specs.Crews.{IsLaneDone}
use Rattle.work_crew.specs.Dones.{IsTenantDone}
use Rattle.work_crew.specs.declared.crew.LaneDone.{LaneDone}
use Rattle.work_crew.specs.declared.finishing.JobEnd.{JobEnd}

-- they are these lanes, each with its place as the number of its job
pub record ArePlaced {W : Type 0} (lanes : List (LaneDone W)) (ends : List (JobEnd W)) : Type 0 where
  pub count : length ends ≡ length lanes
  pub each : (t : ℕ) (e : JobEnd W) → slice_get ends t ≡ Some e → (e.job ≡ t) × (slice_get lanes t ≡ Some e.lane)

-- its job is there, and its lane is over
pub record CanEnd {W : Type 0} (follows : W → Plan → Type 0) (ready : W → Type 0) (stands : W → List ClassedItem
    → Type 0) (ended : W → Option ℕ) (broken : W
    → Bool) (workers : ℕ) (jobs : List TenantJob) (e : JobEnd W) : Type 0 where
  pub some : 1 ≤ workers
  pub there : e.job < length jobs
  pub lane : (job : TenantJob) → slice_get jobs e.job ≡ Some job
      → (b : LaneBook) × IsLaneDone follows ready stands ended broken workers (job_view job) b e.lane

-- it is what the job's works give
abbrev pub HasEnded : {W : Type 0} → (Plan → List ClassedItem → ℕ → Answer) → ℕ → List TenantJob → JobEnd W
    → TenantDone → Type 0
HasEnded answer workers jobs e d =
    (job : TenantJob) → slice_get jobs e.job ≡ Some job → IsTenantDone answer workers (job_view job) e.lane.refused d
