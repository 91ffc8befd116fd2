use Rattle.lane_queue.specs.Turns.{HasSentBelow}
use Rattle.lane_queue.specs.Seats.{ingest_of, IsIngestOf}
use Rattle.lane_queue.proofs.tests.send_all.Given as goal

abbrev pub invariant-loop-k : goal.invariant-loop-k
invariant-loop-k g l = record { own : IsIngestOf l.lane l.seat; sent : HasSentBelow l.k (ingest_of l.seat) }
