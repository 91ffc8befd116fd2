-- What a lane starts with.
use Rattle.std.specs.Prelude.{◌≡◌, ℕ, List, slice_get, Some}
use Rattle.lane_core.specs.Seats.{IsNewWorker}
use Rattle.lane_queue.specs.declared.lane.QueueLane.{QueueLane}
use Rattle.lane_queue.specs.declared.lane.QueueWorker.{QueueWorker}
use Rattle.lane_queue.specs.Seats.{worker_of, IsWorkerOf}

-- seats of the lane's workers, in order, which have done nothing
abbrev pub AreNewWorkers : QueueLane → List QueueWorker → Type 0
AreNewWorkers l xs = (w : ℕ) (x : QueueWorker) → slice_get xs w ≡ Some x → IsWorkerOf l x × IsNewWorker w (worker_of x)
