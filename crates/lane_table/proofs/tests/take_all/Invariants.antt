use Rattle.std.proofs.Common.{false}
use Rattle.lane_core.specs.Alone.{IsAtRest}
use Rattle.lane_table.specs.Seats.{worker_of, IsWorkerOf}
use Rattle.lane_table.proofs.tests.take_all.Given as goal

abbrev pub invariant-loop : goal.invariant-loop
invariant-loop l = record { own : IsWorkerOf l.lane l.seat; rests : IsAtRest 0 false (worker_of l.seat) }
