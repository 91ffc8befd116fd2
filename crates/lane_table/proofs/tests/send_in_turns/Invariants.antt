use Rattle.lane_core.specs.Alone.{HasSent}
use Rattle.lane_table.specs.Seats.{ingest_of, IsIngestOf}
use Rattle.lane_table.proofs.tests.send_in_turns.Given as goal

abbrev pub invariant-loop : goal.invariant-loop
invariant-loop l = record { own : IsIngestOf l.lane l.seat; sent : HasSent l.k (ingest_of l.seat) }
