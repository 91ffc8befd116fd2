-- Lanes that were started for jobs.
use Rattle.std.specs.Prelude.{ℕ, ◌≡◌, [], length, Some, slice_get, replicate}
use Rattle.lane_spec.specs.LaneBook.{LaneBook, IsWholeBook}
use Rattle.lane_core.specs.Seats.{LaneFacts, IngestFacts, WorkerFacts, IsNewIngest, IsNewWorker}
use Rattle.lane_core.specs.declared.kit.Started.{Started}
use Rattle.work_crew.specs.Records.{IsLaneOf}
use Rattle.work_crew.specs.JobView.{job_view}
use Rattle.work_core.specs.declared.job.TenantJob.{TenantJob}

-- started for the job, and nothing was done
pub record IsStarted {L I S : Type 0} (ingest_of : L → I → Type 0) (worker_of : L → S → Type 0) (lane_facts : L
    → LaneFacts) (ingest_facts : I → IngestFacts) (worker_facts : S → WorkerFacts)
    (workers : ℕ) (job : TenantJob) (x : Started L I S) : Type 0 where
  pub lane : IsLaneOf (job_view job) workers (lane_facts x.lane)
  pub ingest : ingest_of x.lane x.ingest
  pub new : IsNewIngest workers (ingest_facts x.ingest)
  pub count : length x.workers.items ≡ workers
  pub seats : (w : ℕ) (s : S) → slice_get x.workers.items w ≡ Some s
      → worker_of x.lane s × IsNewWorker w (worker_facts s)

-- the Book of a lane of which nothing was sent
pub record IsUnusedBook (workers : ℕ) (job : TenantJob) (b : LaneBook) : Type 0 where
  pub whole : IsWholeBook b
  pub buffers : b.buffers ≡ (job_view job).chain.buffers
  pub sent : b.sent ≡ replicate workers []
