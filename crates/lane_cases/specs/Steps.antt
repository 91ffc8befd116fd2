-- What is known of a lane with two workers after some steps of a script.
use Rattle.std.specs.Prelude.{◌≡◌, ℕ, true, false, [], length}
use Rattle.lane_core.specs.Alone.{IsAtRest}
use Rattle.lane_core.specs.Seats.{IngestFacts, WorkerFacts}
use Rattle.lane_queue.specs.Turns.{HasSentBelow}
use Rattle.lane_cases.specs.declared.script.Progress.{Progress}

-- the ingest holds nothing, and has sent none but the first n records to two workers
pub record HasSentTwo (n : ℕ) (f : IngestFacts) : Type 0 where
  pub sent : HasSentBelow n f
  pub two : length f.sent ≡ 2

-- nobody holds a buffer; up to the finish the first records were sent, and each worker took END or not
pub record IsAtStep (p : Progress) (ingest : IngestFacts) (first second : WorkerFacts) : Type 0 where
  pub going : p.finished ≡ false → HasSentTwo p.next ingest
  pub done : p.finished ≡ true → (ingest.finished ≡ true) × (ingest.held ≡ [])
  pub first_rests : IsAtRest 0 p.first_ended first
  pub second_rests : IsAtRest 1 p.second_ended second
