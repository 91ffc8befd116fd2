-- A worker with its seats and works, lane by lane.
use Rattle.std.specs.Prelude.{ℕ, ◌≡◌, ◌≤◌, Bool, true, List, [], length, All, Option, Some, slice_get}
use Rattle.flow_spec.specs.Answer.{ClassedItem}
use Rattle.flow_spec.specs.Plan.{Plan}
use Rattle.lane_core.specs.Seats.{LaneFacts, WorkerFacts, IsNewWorker}
use Rattle.work_core.specs.declared.job.TenantJob.{TenantJob}
use Rattle.work_crew.specs.JobView.{job_view}
use Rattle.work_crew.specs.Worked.{IsNewWork, HasWorked}
use Rattle.work_crew.specs.declared.row.Row.{Row}

-- the lanes were started with the jobs' captures
pub record AreJobsOf {L : Type 0} (lane_facts : L → LaneFacts) (lanes : List L) (jobs : List TenantJob) : Type 0 where
  pub few : length lanes ≤ 16
  pub count : length jobs ≡ length lanes
  pub lane_of : (t : ℕ) (lane : L) (job : TenantJob) → slice_get lanes t ≡ Some lane → slice_get jobs t ≡ Some job
      → (lane_facts lane).capture ≡ job.capture

-- it has a new seat and a new work for each lane
pub record IsWorkerReady {L S W : Type 0} (lane_facts : L → LaneFacts) (owns : L → S → Type 0) (facts : S
    → WorkerFacts) (ready : W → Type 0) (stands : W → List ClassedItem → Type 0) (ended : W → Option ℕ) (broken : W
    → Bool) (lanes : List L) (jobs : List TenantJob) (x : Row S W) : Type 0 where
  pub jobs_are : AreJobsOf lane_facts lanes jobs
  pub seats : length x.seats.items ≡ length lanes
  pub works : length x.works.items ≡ length lanes
  pub own : (t : ℕ) (lane : L) (seat : S) → slice_get lanes t ≡ Some lane → slice_get x.seats.items t ≡ Some seat
      → owns lane seat
  pub new_seats : All (λ seat. IsNewWorker (facts seat).place (facts seat)) x.seats.items
  pub new_works : All (IsNewWork ready stands ended broken) x.works.items

-- each lane was served until END
pub record HasServed {L S W : Type 0} (owns : L → S → Type 0) (facts : S → WorkerFacts) (ready : W
    → Type 0) (stands : W → List ClassedItem → Type 0) (ended : W → Option ℕ) (broken : W → Bool) (follows : W → Plan
    → Type 0) (lanes : List L) (jobs : List TenantJob) (x y : Row S W) : Type 0 where
  pub seats : length y.seats.items ≡ length lanes
  pub works : length y.works.items ≡ length lanes
  pub own : (t : ℕ) (lane : L) (seat : S) → slice_get lanes t ≡ Some lane → slice_get y.seats.items t ≡ Some seat
      → owns lane seat
  pub over : All (λ seat. ((facts seat).ended ≡ true) × ((facts seat).held ≡ [])) y.seats.items
  pub places : (t : ℕ) (old new : S) → slice_get x.seats.items t ≡ Some old → slice_get y.seats.items t ≡ Some new
      → (facts new).place ≡ (facts old).place
  pub worked : (t : ℕ) (seat : S) (work : W) (job : TenantJob) → slice_get y.seats.items t ≡ Some seat
      → slice_get y.works.items t ≡ Some work → slice_get jobs t ≡ Some job
      → HasWorked ready stands ended broken (job_view job) (facts seat) work
  pub follow : (t : ℕ) (old new : W) → slice_get x.works.items t ≡ Some old → slice_get y.works.items t ≡ Some new
      → (p : Plan) → follows old p → follows new p
