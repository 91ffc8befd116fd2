-- The records of a job by their numbers, and which worker each of them goes to.
use Rattle.std.specs.Prelude.{ℕ, zero, suc, ◌≡◌, ◌<◌, ◌≤◌, ◌%◌, nat_eq, Bool, true, false, ◌&&◌, List, [], ◌∷◌, ◌++◌}
use Rattle.std.specs.Prelude.{map, length, if◌then◌else◌, slice_index}
use Rattle.std.specs.List.{slice_index_or, list_any}
use Rattle.brick_spec.specs.Capture.{Contents, Entry}
use Rattle.brick_spec.specs.Flow.{Class}
use Rattle.brick_spec.specs.FlowClass.{class_at}
use Rattle.brick_spec.specs.Item.{Item, item_of}
use Rattle.chain_spec.specs.ChainSet.{Dry, DryWait, DryDrop}
use Rattle.flow_spec.specs.Answer.{ClassedItem}
use Rattle.tenant_spec.specs.Records as tenant
use Rattle.run_spec.specs.Books.{Job, goes_to}
use Rattle.lane_spec.specs.Pairs.{Pair}
use Rattle.lane_core.specs.Seats.{LaneFacts}

abbrev pub frames_of : Contents → List (List ℕ)
frames_of c = map (λ (e : Entry). e.frame) c.entries

abbrev pub entry_at : Contents → ℕ → Entry
entry_at c k = slice_index_or c.entries k (record { seconds = 0; fraction = 0; original = 0; frame = [] })

-- how many records there are
abbrev pub records_in : Job → ℕ
records_in job = length job.capture.entries

abbrev pub class_in : Job → ℕ → Class
class_in job k = class_at job.chain.nat (frames_of job.capture) k

abbrev pub item_in : Job → ℕ → Item
item_in job k = item_of k (entry_at job.capture k)

-- record k with its class
abbrev pub record_in : Job → ℕ → ClassedItem
record_in job k = record { class = class_in job k; item = item_in job k }

-- the records of a log, in its order
abbrev pub records_of : Job → List Pair → List ClassedItem
records_of job log = map (λ (p : Pair). record_in job p.1) log

-- record k is longer than a buffer
abbrev pub is_big : Job → ℕ → Bool
is_big job k = tenant.is_big job.chain (item_in job k)

-- the worker that record k goes to, of so many: its flow's hash names it
abbrev pub worker_of : Job → ℕ → ℕ → ℕ
worker_of job workers k = (class_in job k).flow.hash % workers

-- record k goes to worker w
abbrev pub of_worker : Job → ℕ → ℕ → ℕ → Bool
of_worker job workers w k = goes_to workers w (record_in job k)

-- where no buffer is free the tenant waits
abbrev pub waits : Dry → Bool
waits DryWait = true
waits DryDrop = false

-- NUMBERS

-- the numbers below n for which the test says so, in order
abbrev pub numbers_where : (ℕ → Bool) → ℕ → List ℕ
numbers_where test zero = []
numbers_where test (suc n) = numbers_where test n ++ (if test n then n ∷ [] else [])

abbrev pub is_in : List ℕ → ℕ → Bool
is_in numbers k = list_any (nat_eq k) numbers

-- each number is below those behind it, and all are below n
abbrev pub AreRisingBelow : ℕ → List ℕ → Type 0
AreRisingBelow n numbers = numbers ≡ numbers_where (is_in numbers) n

-- record k is neither Big nor among the refused ones
abbrev pub is_accepted : Job → List ℕ → ℕ → Bool
is_accepted job refused k = tenant.is_accepted job.chain refused (item_in job k)

-- it is an accepted record of worker w
abbrev pub is_sent : Job → List ℕ → ℕ → ℕ → ℕ → Bool
is_sent job refused workers w k = is_accepted job refused k && of_worker job workers w k

-- the lane was started for the job and so many workers, with room for all records of each
pub record IsLaneOf (job : Job) (workers : ℕ) (lane : LaneFacts) : Type 0 where
  pub capture : lane.capture ≡ job.capture
  pub buffers : lane.buffers ≡ job.chain.buffers
  pub bytes : lane.bytes ≡ job.chain.bytes
  pub count : length lane.shares ≡ workers
  pub shares : (w : ℕ) → w < workers
      → length (numbers_where (of_worker job workers w) (records_in job)) ≤ slice_index lane.shares w
