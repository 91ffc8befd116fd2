-- What came of the jobs of a crew that was shut.
use Rattle.std.proofs.Common.{◌≡◌, ℕ, Bool, List, map, length, sym, ap, ◌∙◌, arith, Option, Some}
use Rattle.std.specs.Prelude.{slice_get, take, Result, Ok, Err, IfOk, OnErr}
use Rattle.std.specs.List.{AllZip}
use Rattle.std.specs.Global.{Vec}
use Rattle.std.proofs.lemmas.Option.{slice_get_within}
use Rattle.flow_spec.specs.Answer.{ClassedItem}
use Rattle.flow_spec.specs.Plan.{Plan}
use Rattle.run_spec.specs.Books as books
use Rattle.run_spec.specs.Books.{IsPartBook}
use Rattle.lane_spec.specs.LaneBook.{LaneBook}
use Rattle.lane_core.specs.Seats.{LaneFacts, IngestFacts, WorkerFacts}
use Rattle.work_core.specs.declared.job.TenantJob.{TenantJob}
use Rattle.work_crew.specs.JobView.{job_view}
use Rattle.work_crew.specs.Ingested.{HasSentAll}
use Rattle.work_crew.specs.Crews.{Threes, Fours, IsShutAs, IsKept, IsCrewOver, IsLaneDone}
use Rattle.work_crew.specs.declared.crew.Crew.{Crew}
use Rattle.work_crew.specs.declared.crew.LaneDone.{LaneDone}
use Rattle.work_crew.proofs.Rows.{there_at}
use Rattle.work_crew.proofs.Ends.{whole_book, part_book, sent_ok, has_run, zip_jobs, zip_taken}

pub on_err : {A E P : Type 0} (r : Result A E) → P → OnErr r P
on_err (Ok x) p = tt
on_err (Err e) p = p

pub both_if_ok : {A E : Type 0} {P Q R : A → Type 0} (r : Result A E) → ((x : A) → P x → Q x → R x) → IfOk r P → IfOk r Q → IfOk r R
both_if_ok (Ok x) f p q = f x p q
both_if_ok (Err e) f p q = tt

module _ {L I S W : Type 0} (ingest_of : L → I → Type 0) (worker_of : L → S → Type 0) (lane_facts : L → LaneFacts) (ingest_facts : I → IngestFacts) (worker_facts : S → WorkerFacts)
    (follows : W → Plan → Type 0) (ready : W → Type 0) (stands : W → List ClassedItem → Type 0) (ended : W → Option ℕ) (broken : W → Bool) (jobs : List TenantJob) (workers : ℕ)
    (crew : Crew L I S W) (over : IsCrewOver ingest_of worker_of lane_facts ingest_facts worker_facts follows ready stands ended broken jobs workers crew) (bs : List LaneBook) (bs_count : length bs ≡ length crew.lanes.items)
    (shut : Fours (IsShutAs lane_facts ingest_facts worker_facts) crew.lanes.items crew.ingests.items crew.rows.items bs) where
  bs_many : length bs ≡ length jobs
  bs_many = bs_count ∙ over.lanes_count

  part_at : (t : ℕ) (job : TenantJob) (b : LaneBook) → slice_get jobs t ≡ Some job → slice_get bs t ≡ Some b → IsPartBook workers (job_view job) b
  part_at t job b at at_b =
      let below = slice_get_within jobs t job at in
      let n = over.lanes_count in
      let m = over.ingests_count in
      let o = over.rows_count in
      let lane = there_at crew.lanes.items t (omega arith) in
      let i = there_at crew.ingests.items t (omega arith) in
      let row = there_at crew.rows.items t (omega arith) in
      let e = over.sent t job i.0 at i.1 in
      part_book workers job (ingest_facts i.0.seat) (lane_facts lane.0) (map (λ s. (worker_facts s).received) row.0.seats.items) b i.0.outcome e.told e.sent e.no_memory ((over.lane_of t job lane.0 at lane.1).buffers)
      (shut t lane.0 i.0 row.0 b lane.1 i.1 row.1 at_b)

  pub part_books : AllZip (IsPartBook workers) (take (length bs) (map job_view jobs)) bs
  part_books = zip_taken (IsPartBook workers) jobs bs bs_many (zip_jobs (IsPartBook workers) jobs bs bs_many part_at)

  module _ (done : List (LaneDone W)) (done_count : length done ≡ length crew.lanes.items) (kept : Threes IsKept crew.ingests.items crew.rows.items done) where
    pub done_many : length done ≡ length jobs
    done_many = done_count ∙ over.lanes_count

    whole_at : (t : ℕ) (job : TenantJob) (b : LaneBook) → slice_get jobs t ≡ Some job → slice_get bs t ≡ Some b → books.IsBookOf workers (job_view job) b
    whole_at t job b at at_b =
        let below = slice_get_within jobs t job at in
        let n = over.lanes_count in
        let m = over.ingests_count in
        let o = over.rows_count in
        let k = done_many in
        let lane = there_at crew.lanes.items t (omega arith) in
        let i = there_at crew.ingests.items t (omega arith) in
        let row = there_at crew.rows.items t (omega arith) in
        let d = there_at done t (omega arith) in
        let s = sent_ok (λ refused. HasSentAll workers (job_view job) refused (ingest_facts i.0.seat)) i.0.outcome d.0.refused (kept t i.0 row.0 d.0 i.1 row.1 d.1).refused ((over.sent t job i.0 at i.1).sent) in
        whole_book (job_view job) workers d.0.refused (ingest_facts i.0.seat) (lane_facts lane.0) (map (λ s. (worker_facts s).received) row.0.seats.items) b s ((over.lane_of t job lane.0 at lane.1).buffers)
        (shut t lane.0 i.0 row.0 b lane.1 i.1 row.1 at_b)

    pub whole_books : AllZip (books.IsBookOf workers) (map job_view jobs) bs
    whole_books = zip_jobs (books.IsBookOf workers) jobs bs bs_many whole_at

    pub lanes_done : Threes (λ job b d. IsLaneDone follows ready stands ended broken workers (job_view job) b d) jobs bs done
    lanes_done t job b d at at_b at_d =
        let below = slice_get_within jobs t job at in
        let n = over.lanes_count in
        let m = over.ingests_count in
        let o = over.rows_count in
        let lane = there_at crew.lanes.items t (omega arith) in
        let i = there_at crew.ingests.items t (omega arith) in
        let row = there_at crew.rows.items t (omega arith) in
        let keeps = kept t i.0 row.0 d i.1 row.1 at_d in
        let s = sent_ok (λ refused. HasSentAll workers (job_view job) refused (ingest_facts i.0.seat)) i.0.outcome d.refused keeps.refused ((over.sent t job i.0 at i.1).sent) in
        let b_is = shut t lane.0 i.0 row.0 b lane.1 i.1 row.1 at_b in
        let full = over.rows t row.0 row.1 in record {
          refused = sym (s.unsent b b_is.sent);
          count = ap (λ (v : Vec W). length v.items) keeps.works ∙ full.works;
          works = λ w work at_work.
              let at_row = ap (λ (v : Vec W). slice_get v.items w) (sym keeps.works) ∙ at_work in
              let wide = slice_get_within row.0.works.items w work at_row in
              let many = full.works in
              let many' = full.seats in
              let seat = there_at row.0.seats.items w (omega arith) in
              let x = over.worked t w job row.0 seat.0 work at row.1 seat.1 at_row in
              has_run worker_facts follows ready stands ended broken (job_view job) workers d.refused (ingest_facts i.0.seat) (lane_facts lane.0) row.0.seats.items b s b_is w (omega arith) seat.0 seat.1 work x.0 x.1;
        }
