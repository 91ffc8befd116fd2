-- An ingest with the number of its lane.
use Rattle.std.specs.Prelude.{ℕ, ◌≡◌, ◌<◌, ◌≤◌, true, List, [], length, replicate, Some, slice_get, IfSome, IfOk, OnErr}
use Rattle.std.specs.Prelude.{IsSome}
use Rattle.lane_core.specs.Seats.{LaneFacts, IngestFacts, IsNewIngest}
use Rattle.work_core.specs.declared.job.TenantJob.{TenantJob}
use Rattle.work_crew.specs.Records.{IsLaneOf}
use Rattle.work_crew.specs.JobView.{job_view}
use Rattle.work_crew.specs.Ingested.{HasSentAll}
use Rattle.work_crew.specs.declared.sides.IngestSide.{IngestSide}

-- its lane and job are there, and it has done nothing
pub record IsIngestReady {L I : Type 0} (lane_facts : L → LaneFacts) (owns : L → I → Type 0) (facts : I
    → IngestFacts) (lanes : List L) (jobs : List TenantJob) (workers : ℕ) (x : IngestSide I) : Type 0 where
  pub some : 1 ≤ workers
  pub there : x.lane < length lanes
  pub job_there : x.lane < length jobs
  pub own : (lane : L) → slice_get lanes x.lane ≡ Some lane → owns lane x.seat
  pub lane_of : (lane : L) (job : TenantJob) → slice_get lanes x.lane ≡ Some lane → slice_get jobs x.lane ≡ Some job
      → IsLaneOf (job_view job) workers (lane_facts lane)
  pub new : IsNewIngest workers (facts x.seat)

-- It has finished, and has sent all records of its job; where memory ran out it has sent none.
pub record HasSent {L I : Type 0} (owns : L → I → Type 0) (facts : I
    → IngestFacts) (lanes : List L) (jobs : List TenantJob) (workers : ℕ) (x y : IngestSide I) : Type 0 where
  pub lane : y.lane ≡ x.lane
  pub own : (lane : L) → slice_get lanes x.lane ≡ Some lane → owns lane y.seat
  pub finished : ((facts y.seat).finished ≡ true) × ((facts y.seat).held ≡ [])
  pub told : IsSome y.outcome
  pub sent : (job : TenantJob) → slice_get jobs x.lane ≡ Some job
      → IfSome y.outcome (λ r. IfOk r (λ refused. HasSentAll workers (job_view job) refused (facts y.seat)))
  pub no_memory : IfSome y.outcome (λ r. OnErr r ((facts y.seat).sent ≡ replicate workers []))
