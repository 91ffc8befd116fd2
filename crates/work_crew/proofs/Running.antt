-- A crew that was set out is ready to run; and what it is after its run.
use Rattle.std.proofs.Common.{◌≡◌, ℕ, ◌<◌, ◌≤◌, Bool, true, List, [], length, sym, refl, ap, ◌∙◌, subst, arith, Option, Some}
use Rattle.std.specs.Prelude.{slice_get, All}
use Rattle.std.specs.Global.{Vec}
use Rattle.std.proofs.lemmas.List.{length-map}
use Rattle.std.proofs.lemmas.Option.{slice_get_within}
use Rattle.flow_spec.specs.Answer.{ClassedItem}
use Rattle.flow_spec.specs.Plan.{Plan}
use Rattle.tenant_spec.specs.ChainPlan.{plan_of}
use Rattle.lane_core.specs.Seats.{LaneFacts, IngestFacts, WorkerFacts, IsNewIngest, IsNewWorker}
use Rattle.lane_core.specs.declared.kit.Started.{Started}
use Rattle.work_core.specs.declared.job.TenantJob.{TenantJob}
use Rattle.work_crew.specs.Records.{IsLaneOf}
use Rattle.work_crew.specs.JobView.{job_view}
use Rattle.work_crew.specs.Worked.{IsNewWork, HasWorked}
use Rattle.work_crew.specs.Members.{Members, Across}
use Rattle.work_crew.specs.Lanes.{IsStarted}
use Rattle.work_crew.specs.Rows.{Each, HasPlaces, IsTurned}
use Rattle.work_crew.specs.IngestSides.{IsIngestReady, HasSent}
use Rattle.work_crew.specs.WorkerSides.{IsWorkerReady, HasServed}
use Rattle.work_crew.specs.Crews.{Threes, IsSetOut, AreNewWorks, IsOver, IsCrewOver}
use Rattle.work_crew.specs.declared.row.Row.{Row}
use Rattle.work_crew.specs.declared.sides.IngestSide.{IngestSide}
use Rattle.work_crew.specs.declared.crew.Crew.{Crew}
use Rattle.work_crew.proofs.Rows.{there_at}
use Rattle.work_crew.proofs.Setting.{mapped_at, mapped_to, all_of_each, each_of_all}

module _ {L I S W : Type 0} (ingest_of : L → I → Type 0) (worker_of : L → S → Type 0) (lane_facts : L → LaneFacts) (ingest_facts : I → IngestFacts) (worker_facts : S → WorkerFacts)
    (follows : W → Plan → Type 0) (ready : W → Type 0) (stands : W → List ClassedItem → Type 0) (ended : W → Option ℕ) (broken : W → Bool) (jobs : List TenantJob) (workers : ℕ) (some : 1 ≤ workers) (few : length jobs ≤ 16)
    (lanes : List (Started L I S)) (works : List (Vec W)) (count : length lanes ≡ length jobs) (works_count : length works ≡ length jobs)
    (started : Members (IsStarted ingest_of worker_of lane_facts ingest_facts worker_facts workers) jobs lanes) (new_works : Members (AreNewWorks follows ready stands ended broken workers) jobs works)
    (crew : Crew L I S W) (sides : List (Row S W)) (sides_count : length sides ≡ workers) (out : IsSetOut lanes works crew sides) where
  lanes_many : length crew.lanes.items ≡ length jobs
  lanes_many = ap length out.lanes_are ∙ length-map lanes (λ (x : Started L I S). x.lane) ∙ count

  ingests_many : length crew.ingests.items ≡ length jobs
  ingests_many = sym (length-map crew.ingests.items (λ (i : IngestSide I). i.seat)) ∙ ap length out.ingests_are ∙ length-map lanes (λ (x : Started L I S). x.ingest) ∙ count

  -- what was started at a place, and its job
  record Begun (t : ℕ) : Type 0 where
    job : TenantJob
    at_job : slice_get jobs t ≡ Some job
    x : Started L I S
    at_x : slice_get lanes t ≡ Some x
    list : Vec W
    at_list : slice_get works t ≡ Some list
    is : IsStarted ingest_of worker_of lane_facts ingest_facts worker_facts workers job x
    new : AreNewWorks follows ready stands ended broken workers job list

  begun : (t : ℕ) → t < length jobs → Begun t
  begun t lt =
      let j = there_at jobs t lt in
      let x = there_at lanes t (omega arith) in
      let v = there_at works t (omega arith) in
      record { job = j.0; at_job = j.1; x = x.0; at_x = x.1; list = v.0; at_list = v.1; is = started t j.0 x.0 j.1 x.1; new = new_works t j.0 v.0 j.1 v.1 }

  lane_is : (t : ℕ) (lane : L) (x : Started L I S) → slice_get crew.lanes.items t ≡ Some lane → slice_get lanes t ≡ Some x → lane ≡ x.lane
  lane_is t lane x at at' = mapped_to (λ (x : Started L I S). x.lane) crew.lanes.items lanes out.lanes_are t lane x at at'

  seat_is : (t : ℕ) (i : IngestSide I) (x : Started L I S) → slice_get crew.ingests.items t ≡ Some i → slice_get lanes t ≡ Some x → i.seat ≡ x.ingest
  seat_is t i x at at' = mapped_at (λ (i : IngestSide I). i.seat) (λ (x : Started L I S). x.ingest) crew.ingests.items lanes out.ingests_are t i x at at'

  lanes_of : Members (λ job lane. IsLaneOf (job_view job) workers (lane_facts lane)) jobs crew.lanes.items
  lanes_of t job lane at at' =
      let below = slice_get_within jobs t job at in
      let x = there_at lanes t (omega arith) in
      subst (λ l. IsLaneOf (job_view job) workers (lane_facts l)) (sym (lane_is t lane x.0 at' x.1)) ((started t job x.0 at x.1).lane)

  ingest_ready : Each (IsIngestReady lane_facts ingest_of ingest_facts crew.lanes.items jobs workers) crew.ingests.items
  ingest_ready t i at =
      let n = lanes_many in
      let m = ingests_many in
      let below = slice_get_within crew.ingests.items t i at in
      let b = begun t (omega arith) in
      let p = out.places t i at in
      let seat = seat_is t i b.x at b.at_x in record {
        some = some;
        there = omega arith;
        job_there = omega arith;
        own = λ lane at_lane. subst (λ l. ingest_of l i.seat) (sym (lane_is t lane b.x (ap (slice_get crew.lanes.items) (sym p) ∙ at_lane) b.at_x)) (subst (ingest_of b.x.lane) (sym seat) b.is.ingest);
        lane_of = λ lane job at_lane at_job. lanes_of t job lane (ap (slice_get jobs) (sym p) ∙ at_job) (ap (slice_get crew.lanes.items) (sym p) ∙ at_lane);
        new = subst (λ s. IsNewIngest workers (ingest_facts s)) (sym seat) b.is.new;
      }

  pub ingests_ready : All (IsIngestReady lane_facts ingest_of ingest_facts crew.lanes.items jobs workers) crew.ingests.items
  ingests_ready = all_of_each (IsIngestReady lane_facts ingest_of ingest_facts crew.lanes.items jobs workers) crew.ingests.items ingest_ready

  -- the seat and the work of worker w for the lane at place t
  seat_new : (t w : ℕ) (side : Row S W) (lane : L) (seat : S) → slice_get sides w ≡ Some side → slice_get crew.lanes.items t ≡ Some lane → slice_get side.seats.items t ≡ Some seat → worker_of lane seat × IsNewWorker w (worker_facts seat)
  seat_new t w side lane seat at at_lane at_seat =
      let n = lanes_many in
      let below = slice_get_within crew.lanes.items t lane at_lane in
      let b = begun t (omega arith) in
      let r = b.is.seats w seat (sym (out.seats t w b.x side b.at_x at) ∙ at_seat) in
      (subst (λ l. worker_of l seat) (sym (lane_is t lane b.x at_lane b.at_x)) r.0, r.1)

  work_new : (t w : ℕ) (side : Row S W) (job : TenantJob) (work : W) → slice_get sides w ≡ Some side → slice_get jobs t ≡ Some job → slice_get side.works.items t ≡ Some work
      → follows work (plan_of (job_view job).chain) × IsNewWork ready stands ended broken work
  work_new t w side job work at at_job at_work =
      let below = slice_get_within jobs t job at_job in
      let v = there_at works t (omega arith) in
      let new = new_works t job v.0 at_job v.1 in
      let here = sym (out.works_are t w v.0 side v.1 at) ∙ at_work in
      (new.follow w work here, new.new w work here)

  side_ready : Each (IsWorkerReady lane_facts worker_of worker_facts ready stands ended broken crew.lanes.items jobs) sides
  side_ready w side at =
      let n = lanes_many in
      let p = out.sides_are w side at in record {
        jobs_are = record { few = omega arith; count = sym n; lane_of = λ t lane job at_lane at_job. (lanes_of t job lane at_job at_lane).capture };
        seats = p.seats ∙ count ∙ sym n;
        works = p.works ∙ count ∙ sym n;
        own = λ t lane seat at_lane at_seat. (seat_new t w side lane seat at at_lane at_seat).0;
        new_seats = all_of_each (λ seat. IsNewWorker (worker_facts seat).place (worker_facts seat)) side.seats.items (λ t seat at_seat.
            let below = slice_get_within side.seats.items t seat at_seat in
            let many = p.seats in
            let lane = there_at crew.lanes.items t (omega arith) in
            let f = (seat_new t w side lane.0 seat at lane.1 at_seat).1 in record { place = refl; received = f.received; held = f.held; ended = f.ended; idle = f.idle });
        new_works = all_of_each (IsNewWork ready stands ended broken) side.works.items (λ t work at_work.
            let below = slice_get_within side.works.items t work at_work in
            let many = p.works in
            let job = there_at jobs t (omega arith) in
            (work_new t w side job.0 work at job.1 at_work).1);
      }

  pub sides_ready : All (IsWorkerReady lane_facts worker_of worker_facts ready stands ended broken crew.lanes.items jobs) sides
  sides_ready = all_of_each (IsWorkerReady lane_facts worker_of worker_facts ready stands ended broken crew.lanes.items jobs) sides side_ready

  pub served_full : (sides' : List (Row S W)) → Across (HasServed worker_of worker_facts ready stands ended broken follows crew.lanes.items jobs) sides sides' → (k : ℕ) → k ≡ length crew.rows.items → Each (HasPlaces k 0) sides'
  served_full sides' served k is w side at =
      let below = slice_get_within sides' w side at in
      let n = served.count in
      let old = there_at sides w (omega arith) in
      let h = served.each w old.0 side old.1 at in
      let many = lanes_many ∙ sym count ∙ sym out.rows_count ∙ sym is in
      record { seats = h.seats ∙ many; works = h.works ∙ many; seats_room = omega arith; works_room = omega arith }

  -- AFTER THE RUN
  module _ (ingests' : List (IngestSide I)) (sides' rows' : List (Row S W)) (sent : Across (HasSent ingest_of ingest_facts crew.lanes.items jobs workers) crew.ingests.items ingests')
      (served : Across (HasServed worker_of worker_facts ready stands ended broken follows crew.lanes.items jobs) sides sides') (turned : IsTurned sides' rows') (rows_many : length rows' ≡ length crew.rows.items)
      (full : Each (HasPlaces (length sides') (length sides')) rows') where
    sides_many : length sides' ≡ workers
    sides_many = served.count ∙ sides_count

    -- the seat of worker w in row t is its seat for that lane
    seat_served : (t w : ℕ) (row : Row S W) (seat : S) → slice_get rows' t ≡ Some row → slice_get row.seats.items w ≡ Some seat
        → (side : Row S W) × (old : Row S W) × (slice_get sides w ≡ Some old) × HasServed worker_of worker_facts ready stands ended broken follows crew.lanes.items jobs old side × (slice_get side.seats.items t ≡ Some seat)
        × (slice_get row.works.items w ≡ slice_get side.works.items t)
    seat_served t w row seat at at_seat =
        let below = slice_get_within row.seats.items w seat at_seat in
        let p = (full t row at).seats in
        let c = served.count in
        let side = there_at sides' w (omega arith) in
        let old = there_at sides w (omega arith) in
        let both = turned w t side.0 row side.1 at in
        (side.0, old.0, old.1, served.each w old.0 side.0 old.1 side.1, both.0 ∙ at_seat, sym both.1)

    over_at : Threes (IsOver ingest_of worker_of lane_facts ingest_facts worker_facts) crew.lanes.items ingests' rows'
    over_at t lane i row at_lane at_i at_row =
        let n = lanes_many in
        let below = slice_get_within crew.lanes.items t lane at_lane in
        let m = ingests_many in
        let job = there_at jobs t (omega arith) in
        let old = there_at crew.ingests.items t (omega arith) in
        let h = sent.each t old.0 i old.1 at_i in
        let p = out.places t old.0 old.1 in record {
          ingest = h.own lane (ap (slice_get crew.lanes.items) p ∙ at_lane);
          finished = h.finished.0;
          held = h.finished.1;
          count = (full t row at_row).seats ∙ sides_many ∙ sym ((lanes_of t job.0 lane job.1 at_lane).count);
          seats = λ w seat at_seat.
              let (side, before, at_before, serves, here, _) = seat_served t w row seat at_row at_seat in
              let q = out.sides_are w before at_before in
              let first = there_at before.seats.items t (let k = q.seats in omega arith) in
              let new = seat_new t w before lane first.0 at_before at_lane first.1 in
              let o = each_of_all (λ seat. ((worker_facts seat).ended ≡ true) × ((worker_facts seat).held ≡ [])) side.seats.items serves.over t seat here in
              (serves.own t lane seat at_lane here, serves.places t first.0 seat first.1 here ∙ new.1.place, o.0, o.1);
        }

    worked_at : (t w : ℕ) (job : TenantJob) (row : Row S W) (seat : S) (work : W) → slice_get jobs t ≡ Some job → slice_get rows' t ≡ Some row → slice_get row.seats.items w ≡ Some seat → slice_get row.works.items w ≡ Some work
        → follows work (plan_of (job_view job).chain) × HasWorked ready stands ended broken (job_view job) (worker_facts seat) work
    worked_at t w job row seat work at_job at_row at_seat at_work =
        let (side, before, at_before, serves, here, there) = seat_served t w row seat at_row at_seat in
        let q = out.sides_are w before at_before in
        let below = slice_get_within jobs t job at_job in
        let first = there_at before.works.items t (let k = q.works in omega arith) in
        let here_work = sym there ∙ at_work in
        (serves.follow t first.0 work first.1 here_work (plan_of (job_view job).chain) ((work_new t w before job first.0 at_before at_job first.1).0), serves.worked t seat work job here here_work at_job)

    pub crew_over : (new : Crew L I S W) → new.lanes.items ≡ crew.lanes.items → new.ingests.items ≡ ingests' → new.rows.items ≡ rows' → IsCrewOver ingest_of worker_of lane_facts ingest_facts worker_facts follows ready stands ended broken jobs workers new
    crew_over new lanes_are ingests_are rows_are = record {
      lanes_count = ap length lanes_are ∙ lanes_many;
      ingests_count = ap length ingests_are ∙ sent.count ∙ ingests_many;
      rows_count = ap length rows_are ∙ rows_many ∙ out.rows_count ∙ count;
      lane_of = subst (Members (λ job lane. IsLaneOf (job_view job) workers (lane_facts lane)) jobs) (sym lanes_are) lanes_of;
      sent = λ t job i at_job at.
          let at_i = ap (λ l. slice_get l t) (sym ingests_are) ∙ at in
          let m = ingests_many in
          let below = slice_get_within jobs t job at_job in
          let old = there_at crew.ingests.items t (omega arith) in
          let h = sent.each t old.0 i old.1 at_i in
          let p = out.places t old.0 old.1 in record { told = h.told; sent = h.sent job (ap (slice_get jobs) p ∙ at_job); no_memory = h.no_memory };
      over = λ t lane i row at_lane at_i at_row. over_at t lane i row (ap (λ l. slice_get l t) (sym lanes_are) ∙ at_lane) (ap (λ l. slice_get l t) (sym ingests_are) ∙ at_i) (ap (λ l. slice_get l t) (sym rows_are) ∙ at_row);
      rows = subst (λ l. Each (HasPlaces workers workers) l) (sym rows_are) (subst (λ k. Each (HasPlaces k k) rows') sides_many full);
      worked = λ t w job row seat work at_job at_row. worked_at t w job row seat work at_job (ap (λ l. slice_get l t) (sym rows_are) ∙ at_row);
    }
