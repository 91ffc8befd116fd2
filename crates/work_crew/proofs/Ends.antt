-- What a lane's Book says of a job, and what the works of a lane stand for.
use Rattle.std.proofs.Common.{◌≡◌, ℕ, zero, suc, ◌<◌, Bool, true, false, not, ◌&&◌, nat_eq, List, [], ◌∷◌, ◌++◌, map, length, get_or, sym, refl, ap, ◌∙◌, subst, arith, eq-eqb, eqb-true, append-nil, Option, Some, None}
use Rattle.std.specs.Prelude.{if◌then◌else◌, slice_get, take, All, IfSome, IfOk, OnErr, IsSome, Result, Ok, Err, replicate}
use Rattle.std.specs.List.{AllByRecursion, AllZip, Contains}
use Rattle.std.proofs.Math.Seq.{take-length}
use Rattle.std.proofs.lemmas.List.{length-map, get_or-map}
use Rattle.std.proofs.lemmas.List.Elements.{All-nil, All-cons}
use Rattle.std.proofs.lemmas.List.Folds.{list_any_at}
use Rattle.std.proofs.lemmas.Map.Views.{Contains-from_any}
use Rattle.std.proofs.lemmas.Option.{slice_get_within, get_or_from_slice_get}
use Rattle.flow_spec.specs.Answer.{ClassedItem}
use Rattle.flow_spec.specs.Plan.{Plan}
use Rattle.flow_work.proofs.Answers.{all_then}
use Rattle.flow_work.proofs.Logs.{all_more}
use Rattle.run_spec.specs.Books as books
use Rattle.run_spec.specs.Books.{Job, IsPartBook, numbers_for, unsent_in, RefusalPromise, log_to}
use Rattle.lane_spec.specs.LaneBook.{LaneBook}
use Rattle.lane_spec.specs.Pairs.{Pair, numbers_of, AreRising}
use Rattle.lane_core.specs.Seats.{LaneFacts, IngestFacts, WorkerFacts, log_of, IsBookOf}
use Rattle.work_core.specs.declared.job.TenantJob.{TenantJob}
use Rattle.work_crew.specs.Records.{records_in, record_in, records_of, is_big, is_in, is_sent, of_worker, numbers_where}
use Rattle.work_crew.specs.JobView.{job_view}
use Rattle.work_crew.specs.Ingested.{HasSentAll}
use Rattle.work_crew.specs.Worked.{HasWorked}
use Rattle.work_crew.specs.Crews.{items_for, HasRun}
use Rattle.work_crew.proofs.Unused.{unused_is_part}
use Rattle.work_crew.proofs.Wholes.{numbers_are, sent_are, in_where, not_where}
use Rattle.work_crew.proofs.Ingests.{in_below}

-- RISING NUMBERS

abbrev AreUp : List ℕ → Type 0
AreUp [] = Unit {0}
AreUp (k ∷ ks) = AllByRecursion (λ m. k < m) ks × AreUp ks

up_more : (ks : List ℕ) (n : ℕ) → AreUp ks → AllByRecursion (λ k. k < n) ks → AreUp (ks ++ n ∷ [])
up_more [] n up below = (tt, tt)
up_more (k ∷ ks) n up below = (all_more (λ m. k < m) (λ m. k < m) (λ m lt. lt) ks n up.0 below.0, up_more ks n up.1 below.1)

up_by : (ks : List ℕ) (n : ℕ) (b : Bool) → AreUp ks × AllByRecursion (λ k. k < n) ks → AreUp (ks ++ (if b then n ∷ [] else [])) × AllByRecursion (λ k. k < suc n) (ks ++ (if b then n ∷ [] else []))
up_by ks n b (up, below) =
    let wider : AllByRecursion (λ k. k < suc n) ks = all_then (λ k. k < n) (λ k. k < suc n) (λ k lt. omega arith) ks below in
    by_test b wider where
      by_test : (b : Bool) → AllByRecursion (λ k. k < suc n) ks → AreUp (ks ++ (if b then n ∷ [] else [])) × AllByRecursion (λ k. k < suc n) (ks ++ (if b then n ∷ [] else []))
      by_test true wider = (up_more ks n up below, all_more (λ k. k < suc n) (λ k. k < suc n) (λ k lt. lt) ks n wider (omega arith))
      by_test false wider = (subst AreUp (sym (append-nil ks)) up, subst (AllByRecursion (λ k. k < suc n)) (sym (append-nil ks)) wider)

where_up : (t : ℕ → Bool) (n : ℕ) → AreUp (numbers_where t n) × AllByRecursion (λ k. k < n) (numbers_where t n)
where_up t zero = (tt, tt)
where_up t (suc n) = up_by (numbers_where t n) n (t n) (where_up t n)

pub where_below : (t : ℕ → Bool) (n : ℕ) → AllByRecursion (λ k. k < n) (numbers_where t n)
where_below t n = (where_up t n).1

pairs_above : (k : ℕ) (log : List Pair) → AllByRecursion (λ m. k < m) (numbers_of log) → All (λ (q : Pair). k < q.1) log
pairs_above k [] h = All-nil (λ (q : Pair). k < q.1)
pairs_above k (p ∷ log) h = All-cons (λ (q : Pair). k < q.1) p log h.0 (pairs_above k log h.1)

rising_of : (log : List Pair) → AreUp (numbers_of log) → AreRising log
rising_of [] h = tt
rising_of (p ∷ log) h = (pairs_above p.1 log h.0, rising_of log h.1)

-- THE BOOK OF A JOB WHOSE RECORDS WERE ALL SENT

pub whole_book : (job : Job) (workers : ℕ) (refused : List ℕ) (f : IngestFacts) (lane : LaneFacts) (received : List (List Pair)) (b : LaneBook) → HasSentAll workers job refused f → lane.buffers ≡ job.chain.buffers → IsBookOf lane f received b
    → books.IsBookOf workers job b
whole_book job workers refused f lane received b s buffers h =
    let told = s.unsent b h.sent in record {
      buffers = h.buffers ∙ buffers;
      workers_are = ap length h.sent ∙ s.count;
      sent = λ w lt. ap (λ l. numbers_of (log_of l w)) h.sent ∙ s.sent w lt ∙ ap (λ r. numbers_for workers job r w) (sym told);
      whole = h.whole;
      missed = λ d. h.missed ∙ s.missed d ∙ ap length (sym told);
      refusal = subst (RefusalPromise job) (sym told) s.refusal;
    }

among_all : (job : Job) (workers : ℕ) (refused : List ℕ) (w k : ℕ) → is_sent job refused workers w k ≡ true → is_sent job [] workers w k ≡ true
among_all job workers refused w k = by_test (is_big job k) (is_in refused k) (of_worker job workers w k) where
  by_test : (a b c : Bool) → ((not a && not b) && c) ≡ true → ((not a && true) && c) ≡ true
  by_test true b c e = e
  by_test false true c e = absurd (cc)
  by_test false false c e = e

record_of : (job : Job) (workers : ℕ) (refused : List ℕ) (w : ℕ) → All (Contains (numbers_for workers job [] w)) (numbers_where (is_sent job refused workers w) (records_in job))
record_of job workers refused w i d below =
    let t = is_sent job refused workers w in
    let n = records_in job in
    let k = get_or (numbers_where t n) i d in
    let here : is_in (numbers_where t n) k ≡ true = list_any_at (nat_eq k) (numbers_where t n) i d below (eq-eqb k k refl) in
    let passes = passes_test (t k) refl t n k here in
    subst (λ l. Contains l k) (sym (numbers_are job [] workers w))
    (Contains-from_any {eq = nat_eq} eqb-true k (numbers_where (is_sent job [] workers w) n) (in_where (is_sent job [] workers w) n k (in_below t n k here) (among_all job workers refused w k passes))) where
      passes_test : (b : Bool) {c : Bool} → c ≡ b → (t : ℕ → Bool) (n k : ℕ) → is_in (numbers_where t n) k ≡ true → t k ≡ true
      passes_test b e t n k here = split (t k) refl where
        split : (c : Bool) → t k ≡ c → t k ≡ true
        split true e = e
        split false e = absurd (let d : true ≡ false = sym here ∙ not_where t n k e in cc)

pub part_of_whole : (job : Job) (workers : ℕ) (b : LaneBook) → books.IsBookOf workers job b → IsPartBook workers job b
part_of_whole job workers b h =
    let refused = unsent_in job b in
    let is = λ (w : ℕ) (lt : w < workers). h.sent w lt ∙ numbers_are job refused workers w in record {
      buffers = h.buffers;
      workers_are = h.workers_are;
      rising = λ w lt. rising_of (log_to b w) (subst AreUp (sym (is w lt)) ((where_up (is_sent job refused workers w) (records_in job)).0));
      records = λ w lt. subst (All (Contains (numbers_for workers job [] w))) (sym (is w lt)) (record_of job workers refused w);
      whole = h.whole;
    }

-- THE BOOK OF A JOB, whether or not memory ran out in its ingest

pub part_book : {E : Type 0} (workers : ℕ) (job : TenantJob) (f : IngestFacts) (lane : LaneFacts) (received : List (List Pair)) (b : LaneBook) (outcome : Option (Result (List ℕ) E)) → IsSome outcome
    → IfSome outcome (λ r. IfOk r (λ refused. HasSentAll workers (job_view job) refused f)) → IfSome outcome (λ r. OnErr r (f.sent ≡ replicate workers [])) → lane.buffers ≡ (job_view job).chain.buffers
    → IsBookOf lane f received b → IsPartBook workers (job_view job) b
part_book workers job f lane received b None told sent none buffers h = absurd (cc)
part_book workers job f lane received b (Some (Ok refused)) told sent none buffers h = part_of_whole (job_view job) workers b (whole_book (job_view job) workers refused f lane received b sent buffers h)
part_book workers job f lane received b (Some (Err e)) told sent none buffers h = unused_is_part workers job b (record { whole = h.whole; buffers = h.buffers ∙ buffers; sent = h.sent ∙ none })

pub sent_ok : {E : Type 0} (P : List ℕ → Type 0) (outcome : Option (Result (List ℕ) E)) (refused : List ℕ) → outcome ≡ Some (Ok refused) → IfSome outcome (λ r. IfOk r P) → P refused
sent_ok P outcome refused is h = subst (λ o. IfSome o (λ r. IfOk r P)) is h

-- THE WORKS OF A LANE

logs_are : (job : Job) (log : List Pair) → records_of job log ≡ map (record_in job) (numbers_of log)
logs_are job [] = refl
logs_are job (p ∷ log) = ap (λ l. record_in job p.1 ∷ l) (logs_are job log)

module _ {S W : Type 0} (worker_facts : S → WorkerFacts) (follows : W → Plan → Type 0) (ready : W → Type 0) (stands : W → List ClassedItem → Type 0) (ended : W → Option ℕ) (broken : W → Bool) where
  pub has_run : (job : Job) (workers : ℕ) (refused : List ℕ) (f : IngestFacts) (lane : LaneFacts) (seats : List S) (b : LaneBook) → HasSentAll workers job refused f → IsBookOf lane f (map (λ s. (worker_facts s).received) seats) b
      → (w : ℕ) → w < workers → (seat : S) → slice_get seats w ≡ Some seat → (work : W) → follows work (Rattle.tenant_spec.specs.ChainPlan.plan_of job.chain) → HasWorked ready stands ended broken job (worker_facts seat) work
      → HasRun follows ready stands ended broken workers job refused w work
  has_run job workers refused f lane seats b s h w lt seat at work follow worked =
      let below = slice_get_within seats w seat at in
      let log : log_of f.sent w ≡ (worker_facts seat).received =
      ap (λ l. log_of l w) (sym h.sent ∙ sym h.whole.same ∙ h.received) ∙ get_or-map (λ s. (worker_facts s).received) seats w seat [] below ∙ ap (λ s. (worker_facts s).received) (get_or_from_slice_get seats w seat seat at) in
      let list : records_of job (worker_facts seat).received ≡ items_for workers job refused w =
      ap (records_of job) (sym log) ∙ logs_are job (log_of f.sent w) ∙ ap (map (record_in job)) (s.sent w lt ∙ numbers_are job refused workers w) ∙ sym (sent_are job refused workers w) in record {
        follow = follow;
        usable = worked.usable;
        open_work = worked.open_work;
        means = λ going. subst (stands work) list (worked.means going);
      }

-- LISTS ALONG JOBS

pub zip_jobs : (P : Job → LaneBook → Type 0) (jobs : List TenantJob) (bs : List LaneBook) → length bs ≡ length jobs → ((t : ℕ) (job : TenantJob) (b : LaneBook) → slice_get jobs t ≡ Some job → slice_get bs t ≡ Some b → P (job_view job) b)
    → AllZip P (map job_view jobs) bs
zip_jobs P [] [] n h = tt
zip_jobs P [] (b ∷ bs) n h = absurd (omega arith)
zip_jobs P (j ∷ js) [] n h = absurd (omega arith)
zip_jobs P (j ∷ js) (b ∷ bs) n h = (h 0 j b refl refl, zip_jobs P js bs (omega arith) (λ t job b. h (suc t) job b))

pub zip_taken : (P : Job → LaneBook → Type 0) (jobs : List TenantJob) (bs : List LaneBook) → length bs ≡ length jobs → AllZip P (map job_view jobs) bs → AllZip P (take (length bs) (map job_view jobs)) bs
zip_taken P jobs bs n h = subst (λ l. AllZip P l bs) (sym (ap (λ k. take k (map job_view jobs)) (n ∙ sym (length-map jobs job_view)) ∙ take-length (map job_view jobs))) h
