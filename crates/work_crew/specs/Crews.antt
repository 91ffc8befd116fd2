-- A crew: lanes, their ingests, and the workers over them.
use Rattle.std.specs.Prelude.{ℕ, ◌≡◌, ◌≤◌, Bool, true, false, List, [], ◌∷◌, ◌++◌, length, map, filter, replicate}
use Rattle.std.specs.Prelude.{Option, Some, None, Ok, IsSome, slice_get, vec_capacity, IfSome, IfOk, OnErr}
use Rattle.std.specs.Global.{Vec}
use Rattle.flow_spec.specs.Answer.{ClassedItem}
use Rattle.flow_spec.specs.Plan.{Plan}
use Rattle.tenant_spec.specs.ChainPlan.{plan_of}
use Rattle.tenant_spec.specs.Records.{accepted_items}
use Rattle.run_spec.specs.Books.{Job, goes_to, unsent_in}
use Rattle.lane_spec.specs.LaneBook.{LaneBook}
use Rattle.lane_core.specs.Seats.{LaneFacts, IngestFacts, WorkerFacts, IsBookOf}
use Rattle.lane_core.specs.declared.kit.Started.{Started}
use Rattle.work_core.specs.declared.job.TenantJob.{TenantJob}
use Rattle.work_crew.specs.Records.{IsLaneOf}
use Rattle.work_crew.specs.JobView.{job_view}
use Rattle.work_crew.specs.Ingested.{HasSentAll}
use Rattle.work_crew.specs.Worked.{IsNewWork, HasWorked}
use Rattle.work_crew.specs.Members.{Members}
use Rattle.work_crew.specs.Rows.{Each, HasPlaces}
use Rattle.work_crew.specs.declared.row.Row.{Row}
use Rattle.work_crew.specs.declared.sides.IngestSide.{IngestSide}
use Rattle.work_crew.specs.declared.crew.Crew.{Crew}
use Rattle.work_crew.specs.declared.crew.Last.{Last}
use Rattle.work_crew.specs.declared.crew.LaneDone.{LaneDone}

-- THREE AND FOUR LISTS: what is said of their members at one place
abbrev pub Threes : {A B C : Type 0} → (A → B → C → Type 0) → List A → List B → List C → Type 0
Threes {A = A} {B = B} {C = C} P xs ys zs = (t : ℕ) (x : A) (y : B) (z : C) → slice_get xs t ≡ Some x
    → slice_get ys t ≡ Some y → slice_get zs t ≡ Some z → P x y z

abbrev pub Fours : {A B C D : Type 0} → (A → B → C → D → Type 0) → List A → List B → List C → List D → Type 0
Fours {A = A} {B = B} {C = C} {D = D} P xs ys zs ws =
    (t : ℕ) (x : A) (y : B) (z : C) (w : D) → slice_get xs t ≡ Some x → slice_get ys t ≡ Some y
    → slice_get zs t ≡ Some z → slice_get ws t ≡ Some w → P x y z w

-- nothing is in it, and there is room for so many lanes
pub record IsEmptyCrew {L I S W : Type 0} (lanes : ℕ) (crew : Crew L I S W) : Type 0 where
  pub no_lanes : crew.lanes.items ≡ []
  pub no_ingests : crew.ingests.items ≡ []
  pub no_rows : crew.rows.items ≡ []
  pub lanes_room : lanes ≤ vec_capacity crew.lanes
  pub ingests_room : lanes ≤ vec_capacity crew.ingests
  pub rows_room : lanes ≤ vec_capacity crew.rows

-- its lanes are these, with their seats and these works
pub record IsCrewOf {L I S W : Type 0} (lanes : List (Started L I S)) (works : List (Vec W))
    (crew : Crew L I S W) : Type 0 where
  pub lanes_are : crew.lanes.items ≡ map (λ (x : Started L I S). x.lane) lanes
  pub ingests_are : map (λ (i : IngestSide I). i.seat) crew.ingests.items ≡ map (λ (x : Started L I S). x.ingest) lanes
  pub places : (t : ℕ) (i : IngestSide I) → slice_get crew.ingests.items t ≡ Some i → i.lane ≡ t
  pub seats_are : map (λ (r : Row S W). r.seats) crew.rows.items ≡ map (λ (x : Started L I S). x.workers) lanes
  pub works_are : map (λ (r : Row S W). r.works) crew.rows.items ≡ works

-- the room is no less
pub record KeepsRoom {L I S W : Type 0} (old new : Crew L I S W) : Type 0 where
  pub lanes : vec_capacity old.lanes ≤ vec_capacity new.lanes
  pub ingests : vec_capacity old.ingests ≤ vec_capacity new.ingests
  pub rows : vec_capacity old.rows ≤ vec_capacity new.rows

-- an ingest and a row for each lane
pub record HasCounts {L I S W : Type 0} (crew : Crew L I S W) : Type 0 where
  pub ingests : length crew.ingests.items ≡ length crew.lanes.items
  pub rows : length crew.rows.items ≡ length crew.lanes.items

-- it stood last
pub record HasLast {L I S W : Type 0} (x : Last L I S W) (old new : Crew L I S W) : Type 0 where
  pub lanes : old.lanes.items ≡ new.lanes.items ++ x.lane ∷ []
  pub ingests : old.ingests.items ≡ new.ingests.items ++ x.side ∷ []
  pub rows : old.rows.items ≡ new.rows.items ++ x.row ∷ []

-- the works of a job, one for each worker, to which nothing came
pub record AreNewWorks {W : Type 0} (follows : W → Plan → Type 0) (ready : W → Type 0) (stands : W → List ClassedItem
    → Type 0) (ended : W → Option ℕ) (broken : W
    → Bool) (workers : ℕ) (job : TenantJob) (works : Vec W) : Type 0 where
  pub count : length works.items ≡ workers
  pub follow : Each (λ x. follows x (plan_of (job_view job).chain)) works.items
  pub new : Each (IsNewWork ready stands ended broken) works.items

-- the items of the accepted records of worker w with their classes, in order
abbrev pub items_for : ℕ → Job → List ℕ → ℕ → List ClassedItem
items_for workers job refused w = filter (goes_to workers w) (accepted_items job.chain refused job.capture)

-- A lane that is over: its ingest has finished, and each worker took END.
pub record IsOver {L I S W : Type 0} (ingest_of : L → I → Type 0) (worker_of : L → S → Type 0) (lane_facts : L
    → LaneFacts) (ingest_facts : I → IngestFacts) (worker_facts : S → WorkerFacts)
    (lane : L) (i : IngestSide I) (row : Row S W) : Type 0 where
  pub ingest : ingest_of lane i.seat
  pub finished : (ingest_facts i.seat).finished ≡ true
  pub held : (ingest_facts i.seat).held ≡ []
  pub count : length row.seats.items ≡ length (lane_facts lane).shares
  pub seats : (w : ℕ) (s : S) → slice_get row.seats.items w ≡ Some s
      → worker_of lane s × ((worker_facts s).place ≡ w) × ((worker_facts s).ended ≡ true) × ((worker_facts s).held ≡ [])

-- the Book that it is shut with
abbrev pub IsShutAs : {L I S W : Type 0} → (L → LaneFacts) → (I → IngestFacts) → (S → WorkerFacts) → L → IngestSide I
    → Row S W → LaneBook → Type 0
IsShutAs lane_facts ingest_facts worker_facts lane i row b =
    IsBookOf (lane_facts lane) (ingest_facts i.seat) (map (λ s. (worker_facts s).received) row.seats.items) b

-- what is kept of it: its works, and which records its ingest refused
pub record IsKept {I S W : Type 0} (i : IngestSide I) (row : Row S W) (d : LaneDone W) : Type 0 where
  pub works : d.works ≡ row.works
  pub refused : i.outcome ≡ Some (Ok d.refused)

-- Its lanes are these, and each worker has its seats and these works lane by lane: nothing is in its rows.
pub record IsSetOut {L I S W : Type 0} (lanes : List (Started L I S)) (works : List (Vec W)) (crew : Crew L I S W)
    (sides : List (Row S W)) : Type 0 where
  pub lanes_are : crew.lanes.items ≡ map (λ (x : Started L I S). x.lane) lanes
  pub ingests_are : map (λ (i : IngestSide I). i.seat) crew.ingests.items ≡ map (λ (x : Started L I S). x.ingest) lanes
  pub places : (t : ℕ) (i : IngestSide I) → slice_get crew.ingests.items t ≡ Some i → i.lane ≡ t
  pub rows_count : length crew.rows.items ≡ length lanes
  pub rows : Each (HasPlaces 0 (length sides)) crew.rows.items
  pub sides_are : Each (HasPlaces (length lanes) (length lanes)) sides
  pub seats : (t w : ℕ) (x : Started L I S) (side : Row S W) → slice_get lanes t ≡ Some x
      → slice_get sides w ≡ Some side → slice_get side.seats.items t ≡ slice_get x.workers.items w
  pub works_are : (t w : ℕ) (x : Vec W) (side : Row S W) → slice_get works t ≡ Some x → slice_get sides w ≡ Some side
      → slice_get side.works.items t ≡ slice_get x.items w

module _ {L I S W : Type 0} (ingest_of : L → I → Type 0) (worker_of : L → S → Type 0) (lane_facts : L
    → LaneFacts) (ingest_facts : I → IngestFacts) (worker_facts : S → WorkerFacts)
    (follows : W → Plan → Type 0) (ready : W → Type 0) (stands : W → List ClassedItem → Type 0) (ended : W
    → Option ℕ) (broken : W → Bool) (jobs : List TenantJob) (workers : ℕ) where
  -- what the ingest of a job has sent: all its records, or where memory ran out none
  pub record HasEnded (job : TenantJob) (i : IngestSide I) : Type 0 where
    pub told : IsSome i.outcome
    pub sent : IfSome i.outcome
        (λ r. IfOk r (λ refused. HasSentAll workers (job_view job) refused (ingest_facts i.seat)))
    pub no_memory : IfSome i.outcome (λ r. OnErr r ((ingest_facts i.seat).sent ≡ replicate workers []))

  -- a crew after its work, with the seats and works of each lane worker by worker
  pub record IsCrewOver (crew : Crew L I S W) : Type 0 where
    pub lanes_count : length crew.lanes.items ≡ length jobs
    pub ingests_count : length crew.ingests.items ≡ length jobs
    pub rows_count : length crew.rows.items ≡ length jobs
    pub lane_of : Members (λ job lane. IsLaneOf (job_view job) workers (lane_facts lane)) jobs crew.lanes.items
    pub sent : Members HasEnded jobs crew.ingests.items
    pub over : Threes (IsOver ingest_of worker_of lane_facts ingest_facts
        worker_facts) crew.lanes.items crew.ingests.items crew.rows.items
    pub rows : Each (HasPlaces workers workers) crew.rows.items
    pub worked : (t w : ℕ) (job : TenantJob) (row : Row S W) (seat : S) (work : W) → slice_get jobs t ≡ Some job
        → slice_get crew.rows.items t ≡ Some row → slice_get row.seats.items w ≡ Some seat
        → slice_get row.works.items w ≡ Some work
        → follows work (plan_of (job_view job).chain)
        × HasWorked ready stands ended broken (job_view job) (worker_facts seat) work

-- THE END

-- Where it has not failed, the work stands for the accepted records of worker w, of which these are refused, in order,
-- each with its class.
pub record HasRun {W : Type 0} (follows : W → Plan → Type 0) (ready : W → Type 0) (stands : W → List ClassedItem
    → Type 0) (ended : W → Option ℕ) (broken : W
    → Bool) (workers : ℕ) (job : Job) (refused : List ℕ) (w : ℕ) (work : W) : Type 0 where
  pub follow : follows work (plan_of job.chain)
  pub usable : ready work
  pub open_work : ended work ≡ None
  pub means : broken work ≡ false → stands work (items_for workers job refused w)

-- What came of a job: the records that its Book says were refused, and a work of each worker.
pub record IsLaneDone {W : Type 0} (follows : W → Plan → Type 0) (ready : W → Type 0) (stands : W → List ClassedItem
    → Type 0) (ended : W → Option ℕ) (broken : W
    → Bool) (workers : ℕ) (job : Job) (b : LaneBook) (d : LaneDone W) : Type 0 where
  pub refused : d.refused ≡ unsent_in job b
  pub count : length d.works.items ≡ workers
  pub works : (w : ℕ) (work : W) → slice_get d.works.items w ≡ Some work
      → HasRun follows ready stands ended broken workers job d.refused w work
