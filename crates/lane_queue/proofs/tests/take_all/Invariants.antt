use Rattle.std.proofs.Common.{false}
use Rattle.lane_core.specs.Alone.{IsAtRest}
use Rattle.lane_queue.specs.Seats.{worker_of, IsWorkerOf}
use Rattle.lane_queue.proofs.tests.take_all.Given as goal

abbrev pub invariant-loop : goal.invariant-loop
invariant-loop g l = record { own : IsWorkerOf l.lane l.seat; rests : IsAtRest l.fn.seat.place false (worker_of l.seat) }
