-- What a lane starts with.
use Rattle.std.specs.Prelude.{◌≡◌, ℕ, ◌+◌, ◌<◌, ◌≤◌, List, [], ◌∷◌, slice_index}
use Rattle.packet_owner.specs.Buffer.{BufferModel}
use Rattle.lane_core.specs.Seats.{IsNewWorker}
use Rattle.lane_table.specs.declared.lane.TableLane.{TableLane}
use Rattle.lane_table.specs.declared.lane.WorkerSeat.{WorkerSeat}
use Rattle.lane_table.specs.declared.view.Stored.{Stored}
use Rattle.lane_table.specs.declared.view.Stored.TheVariants.{Free}
use Rattle.lane_table.specs.Seats.{worker_of, IsWorkerOf}

-- each slot has the buffer of its own number, from a on
abbrev pub IsFullFrom : ℕ → ℕ → List Stored → Type 0
IsFullFrom bytes a [] = Unit {0}
IsFullFrom bytes a (x ∷ xs) =
    ((b : BufferModel) × (x ≡ Free b) × (b.slot ≡ a) × (b.room ≡ bytes)) × IsFullFrom bytes (a + 1) xs

-- the first n words are 1, and the others 0
abbrev pub AreOnes : ℕ → List ℕ → Type 0
AreOnes n words = ((i : ℕ) → i < n → slice_index words i ≡ 1) × ((i : ℕ) → n ≤ i → slice_index words i ≡ 0)

-- seats of the lane's workers from w on, in order, which have done nothing
abbrev pub AreNewFrom : TableLane → ℕ → List WorkerSeat → Type 0
AreNewFrom l w [] = Unit {0}
AreNewFrom l w (x ∷ xs) = (IsWorkerOf l x × IsNewWorker w (worker_of x)) × AreNewFrom l (w + 1) xs
