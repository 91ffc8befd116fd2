-- What an ingest has done.
use Rattle.std.specs.Prelude.{ℕ, ◌≡◌, ◌<◌, ◌≤◌, Bool, true, false, List, [], ◌∷◌, ◌++◌, length}
use Rattle.chain_spec.specs.ChainSet.{DryDrop}
use Rattle.run_spec.specs.Books.{Job, RefusalPromise, numbers_for, unsent_in}
use Rattle.lane_spec.specs.Counts.{total}
use Rattle.lane_spec.specs.LaneBook.{LaneBook}
use Rattle.lane_spec.specs.Pairs.{Pair, numbers_of}
use Rattle.brick_spec.specs.Cause.{one_more}
use Rattle.lane_core.specs.Seats.{IngestFacts, log_of, AreAllBelow, claims_given}
use Rattle.work_crew.specs.Records.{is_big, is_in, is_accepted, is_sent, numbers_where, AreRisingBelow, waits}

-- It has treated the first n records, and refused these of them.
pub record HasIngested (job : Job) (workers n : ℕ) (refused : List ℕ) (f : IngestFacts) : Type 0 where
  pub held : f.held ≡ []
  pub count : length f.sent ≡ workers
  -- to each worker its accepted records were sent, in order
  pub sent : (w : ℕ) → w < workers → numbers_of (log_of f.sent w) ≡ numbers_where (is_sent job refused workers w) n
  pub below : AreAllBelow n f.sent
  pub in_all : total (λ (log : List Pair). length log) f.sent ≡ length (numbers_where (is_accepted job refused) n)
  -- the refused ones rise, and are records that are not Big, each behind as many accepted ones as the lane has buffers
  pub rising : AreRisingBelow n refused
  pub fit : (k : ℕ) → is_in refused k ≡ true → is_big job k ≡ false
  pub behind : (k : ℕ) → is_in refused k ≡ true → job.chain.buffers ≤ length (numbers_where (is_accepted job refused) k)
  -- where the job waits, none is refused; where it drops, each is one claim that answered None
  pub waiting : waits job.chain.dry ≡ true → refused ≡ []
  pub missed : waits job.chain.dry ≡ false → f.missed ≡ length refused

-- It has treated all records, and refused these.
pub record HasSentAll (workers : ℕ) (job : Job) (refused : List ℕ) (f : IngestFacts) : Type 0 where
  pub count : length f.sent ≡ workers
  -- to each worker its accepted records were sent, in order
  pub sent : (w : ℕ) → w < workers → numbers_of (log_of f.sent w) ≡ numbers_for workers job refused w
  -- the refused ones are those that are neither Big nor sent, in order
  pub unsent : (b : LaneBook) → b.sent ≡ f.sent → unsent_in job b ≡ refused
  pub refusal : RefusalPromise job refused
  -- each of a tenant that drops is one claim that answered None
  pub missed : job.chain.dry ≡ DryDrop → f.missed ≡ length refused

-- a claim gave the slot, whatever claims before it did
pub record HasClaimed (slot : ℕ) (old new : IngestFacts) : Type 0 where
  pub held : new.held ≡ old.held ++ slot ∷ []
  pub sent : new.sent ≡ old.sent
  pub finished : new.finished ≡ old.finished

-- a claim gave no buffer, which only a tenant that drops is told: nothing is sent or held more
pub record RefusedBy (buffers : ℕ) (waiting : Bool) (old new : IngestFacts) : Type 0 where
  pub drops : waiting ≡ false
  pub missed : new.missed ≡ one_more old.missed
  pub sent : new.sent ≡ old.sent
  pub held : new.held ≡ old.held
  pub finished : new.finished ≡ old.finished
  pub all_given : buffers ≤ claims_given old
