-- What is known of an ingest that sends the records in order, to whatever workers.
use Rattle.std.specs.Prelude.{◌≡◌, ℕ, ◌≤◌, false, [], length}
use Rattle.lane_core.specs.Seats.{IngestFacts, log_of, AreAllBelow}

-- it holds nothing, and has sent none but the first n records, each once
pub record HasSentBelow (n : ℕ) (f : IngestFacts) : Type 0 where
  pub finished : f.finished ≡ false
  pub held : f.held ≡ []
  pub below : AreAllBelow n f.sent
  pub few : (w : ℕ) → length (log_of f.sent w) ≤ n
