-- What a worker has made of its lanes so far.
use Rattle.std.specs.Prelude.{ℕ, ◌≡◌, Bool, false, List, [], length, Some, slice_get}
use Rattle.std.specs.List.{slice_index_or}
use Rattle.run_spec.specs.Books.{Job}
use Rattle.lane_core.specs.Seats.{WorkerFacts}
use Rattle.work_core.specs.declared.job.TenantJob.{TenantJob}
use Rattle.work_crew.specs.JobView.{job_view}

-- Lane by lane: the seat is still the lane's and in its place, holds nothing, is marked where it took END, and the work
-- stands for what was received.
pub record AreServed {L S W : Type 0} (owns : L → S → Type 0) (facts : S → WorkerFacts) (worked : Job → WorkerFacts → W
    → Type 0) (same : W → W → Type 0)
    (lanes : List L) (jobs : List TenantJob) (seats_before seats : List S) (works_before works : List W)
    (marks : List Bool) : Type 0 where
  pub seats_count : length seats ≡ length lanes
  pub works_count : length works ≡ length lanes
  pub marks_count : length marks ≡ 16
  pub own : (t : ℕ) (lane : L) (seat : S) → slice_get lanes t ≡ Some lane → slice_get seats t ≡ Some seat
      → owns lane seat
  pub marked : (t : ℕ) (seat : S) → slice_get seats t ≡ Some seat → (facts seat).ended ≡ slice_index_or marks t false
  pub held : (t : ℕ) (seat : S) → slice_get seats t ≡ Some seat → (facts seat).held ≡ []
  pub places : (t : ℕ) (old new : S) → slice_get seats_before t ≡ Some old → slice_get seats t ≡ Some new
      → (facts new).place ≡ (facts old).place
  pub done : (t : ℕ) (seat : S) (work : W) (job : TenantJob) → slice_get seats t ≡ Some seat
      → slice_get works t ≡ Some work → slice_get jobs t ≡ Some job → worked (job_view job) (facts seat) work
  pub stays : (t : ℕ) (old new : W) → slice_get works_before t ≡ Some old → slice_get works t ≡ Some new → same new old
