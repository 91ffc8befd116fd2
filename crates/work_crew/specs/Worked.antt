-- What a worker has done for one job.
use Rattle.std.specs.Prelude.{ℕ, ◌≡◌, Bool, false, List, [], ◌++◌, map, Option, None, All}
use Rattle.std.specs.List.{AllByRecursion}
use Rattle.flow_spec.specs.Answer.{ClassedItem}
use Rattle.batch_ops.specs.declared.batch.Work.{Work}
use Rattle.flow_work.specs.Buffers.{work_buffer, is_own}
use Rattle.run_spec.specs.Books.{Job}
use Rattle.work_core.specs.Classed.{classed}
use Rattle.lane_spec.specs.Pairs.{Pair}
use Rattle.lane_core.specs.Seats.{WorkerFacts}
use Rattle.work_crew.specs.Records.{records_of}

-- nothing came to the work yet
pub record IsNewWork {W : Type 0} (ready : W → Type 0) (stands : W → List ClassedItem → Type 0) (ended : W
    → Option ℕ) (broken : W → Bool) (w : W) : Type 0 where
  pub usable : ready w
  pub nothing : stands w []
  pub open_work : ended w ≡ None
  pub works : broken w ≡ false

-- Where it has not failed it stands for the records of the log, in order, each with its class.
pub record HasWorked {W : Type 0} (ready : W → Type 0) (stands : W → List ClassedItem → Type 0) (ended : W
    → Option ℕ) (broken : W → Bool) (job : Job) (f : WorkerFacts) (w : W) : Type 0 where
  pub held : f.held ≡ []
  pub usable : ready w
  pub means : broken w ≡ false → stands w (records_of job f.received)
  pub open_work : ended w ≡ None

-- the pair of a packet's slot and its number
abbrev pub pair_of : Work → Pair
pair_of w = (w.packet.slot, w.packet.a)

abbrev pub slot_of : Work → ℕ
slot_of w = w.packet.slot

-- Packets were received into a batch: they are the records that the seat's log has more, in order, and it holds their
-- buffers.
pub record HasGathered (job : Job) (bytes : ℕ) (old new : WorkerFacts) (works : List Work)
    (took_end : Bool) : Type 0 where
  pub received : new.received ≡ old.received ++ map pair_of works
  pub held : new.held ≡ map slot_of works
  pub place : new.place ≡ old.place
  pub ended : new.ended ≡ took_end
  pub rooms : All (λ (w : Work). w.packet.room ≡ bytes) works
  pub records : map classed works ≡ records_of job (map pair_of works)
  pub own : AllByRecursion (λ (w : Work). is_own (work_buffer w) ≡ Rattle.std.specs.Prelude.true) works

-- it gave back all that it held
pub record HasGivenBack (old new : WorkerFacts) : Type 0 where
  pub held : new.held ≡ []
  pub received : new.received ≡ old.received
  pub place : new.place ≡ old.place
  pub ended : new.ended ≡ old.ended
