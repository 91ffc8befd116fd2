-- What a run over lanes leaves, from its parts to the whole.
use Rattle.std.specs.Prelude.{◌≡◌, ◌⊎◌, ℕ, List, [], ◌++◌, length, map, take, slice_get, Some, Contains, Result, Ok}
use Rattle.std.specs.Prelude.{Err, IsErr}
use Rattle.std.specs.List.{AllByRecursion, AllZip}
use Rattle.std.specs.Global.{Vec}
use Rattle.brick_base.specs.declared.memory.NoMemory.{NoMemory}
use Rattle.brick_spec.specs.Capture.{Contents}
use Rattle.brick_spec.specs.Cause.{reading_account}
use Rattle.brick_spec.specs.Files.{Files, AllStay}
use Rattle.chain_spec.specs.ChainSet.{Chain, file_names}
use Rattle.lane_spec.specs.LaneBook.{LaneBook}
use Rattle.run_spec.specs.Books.{Job, refused_by, IsBookOf, IsPartBook}
use Rattle.run_spec.specs.Isolation.{IsTrueOf}
use Rattle.run_spec.specs.Lanes.{numbers_in, numbers_read, AreRisingNumbers, AreJobs}
use Rattle.run_spec.specs.Report.{Line, Outcome, Usage, ChainsRefused, StoreFault, Checked, Reported}
use Rattle.run_spec.specs.Report as outcome
use Rattle.run_spec.specs.Seen.{Held, CountRose, Says, IsTenant, Captured}
use Rattle.run_spec.specs.Subject.{NoneTouched}
use Rattle.run_report.specs.View.{line_view}
use Rattle.run_report.specs.declared.report.Line.{Line as LineInCode}
use Rattle.tenant_files.specs.Run.{AllRan}
use Rattle.tenant_files.specs.declared.inputs.TenantInput.{TenantInput}
use Rattle.lane_runs.specs.Jobs.{jobs_of, IsJob}
use Rattle.lane_runs.specs.Writing.{WroteAll}

-- the Books are those of before and then these, each whole
pub record Adds (workers : ℕ) (jobs : List Job) (old new added : List LaneBook) : Type 0 where
  pub after : new ≡ old ++ added
  pub parts : AllZip (IsPartBook workers) (take (length added) jobs) added

-- AFTER THE CAPTURES

-- Memory ran out in the lanes, and no name is touched; or each job has its Book, and with the records that these say to
-- be refused the tenants were written.
pub record JobsRan (tells : Type 0) (out : List ℕ) (workers : ℕ) (set : List Chain) (inputs : List TenantInput)
    (first before now : Held) (old new : List LaneBook) (told : List Line)
    (r : Result (Unit {0}) NoMemory) : Type 0 where
  pub added : List LaneBook
  pub adds : Adds workers (jobs_of 0 set inputs) old new added
  pub ran : (IsErr r × (now ≡ before))
      ⊎ (AllZip (IsBookOf workers) (jobs_of 0 set inputs) added
      × WroteAll tells out 0 (refused_by (jobs_of 0 set inputs) added) set inputs first.faults before now [] told r)

-- of each line that tells that a capture was read whole there is a job, in order, and each job has its Book
pub record HaveBooks (workers : ℕ) (jobs : List Job) (added : List LaneBook) (lines : List Line) : Type 0 where
  pub all : numbers_in jobs ≡ numbers_read 0 lines
  pub each : AllZip (IsBookOf workers) jobs added

abbrev pub LinesHaveBooks : ℕ → List Job → List LaneBook → Result (Vec LineInCode) NoMemory → Type 0
LinesHaveBooks workers jobs added (Ok lines) = HaveBooks workers jobs added (map line_view lines.items)
LinesHaveBooks workers jobs added (Err no_memory) = Unit {0}

-- FROM THE CAPTURES ON, by the chains
module _ (tells : Type 0) (out : List ℕ) (workers : ℕ) (set : List Chain) (first now : Held) where
  -- every tenant whose capture is held and read, and on whose capture its reading count did not rise, has a job
  abbrev pub HaveJobs : List Job → Type 0
  HaveJobs jobs = (t : ℕ) (chain : Chain) (c : Contents) → IsTenant set t chain → Captured first.files chain.capture c
      → ¬ (CountRose (reading_account t) chain.capture first now) → Contains (numbers_in jobs) t

  pub record SetRan (old new : List LaneBook) (r : Result (Vec LineInCode) NoMemory) : Type 0 where
    pub jobs : List Job
    pub added : List LaneBook
    pub adds : Adds workers jobs old new added
    pub rising : AreRisingNumbers (numbers_in jobs)
    pub are : tells → AllByRecursion (IsJob set first.files) jobs
    pub all : tells → (added ≡ []) ⊎ HaveJobs jobs
    pub touched : tells → AllStay first.files now.files ⊎ AllZip (IsBookOf workers) jobs added
    pub others : tells → (t : ℕ) (chain : Chain) → IsTenant set t chain → ¬ (Contains (numbers_in jobs) t)
        → NoneTouched (file_names out chain) first.files now.files
    pub ran : AllRan tells out (refused_by jobs added) set first now r
    pub books : LinesHaveBooks workers jobs added r

-- FROM THE CHAIN FILE ON

abbrev pub OutcomeHasBooks : ℕ → List Job → List LaneBook → Outcome → Type 0
OutcomeHasBooks workers jobs added Usage = Unit {0}
OutcomeHasBooks workers jobs added (ChainsRefused fault) = added ≡ []
OutcomeHasBooks workers jobs added StoreFault = added ≡ []
OutcomeHasBooks workers jobs added outcome.NoMemory = Unit {0}
OutcomeHasBooks workers jobs added (Checked names) = Unit {0}
OutcomeHasBooks workers jobs added (Reported lines) = HaveBooks workers jobs added lines

pub record FilesRan (tells : Type 0) (chains out : List ℕ) (workers : ℕ) (before now : Held) (old new : List LaneBook)
    (outcome : Outcome) : Type 0 where
  pub jobs : List Job
  pub added : List LaneBook
  pub adds : Adds workers jobs old new added
  pub rising : AreRisingNumbers (numbers_in jobs)
  pub are_jobs : tells → AreJobs chains out before.files jobs
  pub all : tells → (added ≡ [])
      ⊎ ((set : List Chain) → Says chains out before.files set → HaveJobs tells out workers set before now jobs)
  pub touched : tells → AllStay before.files now.files ⊎ AllZip (IsBookOf workers) jobs added
  pub others : tells → (set : List Chain) (t : ℕ) (chain : Chain) → Says chains out before.files set
      → IsTenant set t chain → ¬ (Contains (numbers_in jobs) t)
      → NoneTouched (file_names out chain) before.files now.files
  pub is_true : IsTrueOf tells chains out (refused_by jobs added) before now outcome
  pub books : OutcomeHasBooks workers jobs added outcome
