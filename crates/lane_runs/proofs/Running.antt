-- A run over lanes, from its parts to the whole.
use Rattle.std.proofs.Common.{◌≡◌, ◌⊎◌, inl, inr, ℕ, zero, suc, ◌+◌, ◌≤◌, ◌<◌, List, [], ◌∷◌, ◌++◌, map, length, refl, sym, ap, ◌∙◌, subst, arith, true≢false, append-nil}
use Rattle.std.specs.Prelude.{Result, Ok, Err, IsErr, Contains, take, slice_get, Some}
use Rattle.std.specs.List.{AllByRecursion, AllZip}
use Rattle.std.specs.Global.{Vec}
use Rattle.brick_base.specs.declared.memory.NoMemory.{NoMemory}
use Rattle.brick_spec.specs.Capture.{Contents}
use Rattle.brick_spec.specs.Cause.{Rose, reading_account}
use Rattle.brick_spec.specs.Files.{Files, FaultCounts, AllStay}
use Rattle.chain_spec.specs.ChainSet.{Chain, file_names}
use Rattle.lane_spec.specs.LaneBook.{LaneBook}
use Rattle.run_spec.specs.Books.{Job, refused_by, unsent_in, IsBookOf, IsPartBook}
use Rattle.run_spec.specs.Isolation.{Refusals}
use Rattle.run_spec.specs.Lanes.{numbers_in, numbers_read}
use Rattle.run_spec.specs.Report.{Line}
use Rattle.run_spec.specs.Seen.{Held, CountRose, IsTenant, Captured}
use Rattle.run_spec.specs.Subject.{NoneTouched}
use Rattle.run_spec.specs.Tenants.{NoneFell, TenantsRan, TenantsMay}
use Rattle.run_spec.proofs.Set.{same_then, all_stay}
use Rattle.run_report.specs.View.{line_view}
use Rattle.run_report.specs.declared.report.Line.{Line as LineInCode}
use Rattle.work_core.specs.declared.job.TenantDone.{TenantDone}
use Rattle.work_core.specs.declared.job.TenantJob.{TenantJob}
use Rattle.work_crew.specs.JobView.{job_view}
use Rattle.work_crew.proofs.Dones.{parts_of_wholes}
use Rattle.tenant_lanes.specs.Dones.{AllMade}
use Rattle.tenant_files.specs.Inputs.{AreInputs}
use Rattle.tenant_files.specs.Run.{CanRun, AllRan}
use Rattle.tenant_files.specs.declared.inputs.TenantInput.{TenantInput}
use Rattle.tenant_files.proofs.Steps.{ran_none, may_stay, may_after}
use Rattle.lane_runs.specs.declared.jobs.Tenant.{Tenant}
use Rattle.lane_runs.specs.Jobs.{jobs_of, unnumbered, AreTenants, IsJob}
use Rattle.lane_runs.specs.Ran.{Adds, JobsRan, HaveBooks, LinesHaveBooks, HaveJobs, SetRan}
use Rattle.lane_runs.specs.Writing.{AreReady, UnreadStay, WroteLines, WroteAll}
use Rattle.lane_runs.proofs.JobLists.{numbers_rise, jobs_are, has_job, none_without}
use Rattle.lane_runs.proofs.Ready.{own_refused, all_ready}

-- BOOKS do not know the number of a tenant

part_numbered : (workers : ℕ) (j : Job) (b : LaneBook) → IsPartBook workers (unnumbered j) b → IsPartBook workers j b
part_numbered workers j b h = record { buffers = h.buffers; workers_are = h.workers_are; rising = h.rising; records = h.records; whole = h.whole }

book_numbered : (workers : ℕ) (j : Job) (b : LaneBook) → IsBookOf workers (unnumbered j) b → IsBookOf workers j b
book_numbered workers j b h =
    record { buffers = h.buffers; workers_are = h.workers_are; sent = h.sent; whole = h.whole; missed = h.missed; refusal = record { only = h.refusal.only; earlier = h.refusal.earlier } }

zip_numbered : (P : Job → LaneBook → Type 0) → ((j : Job) (b : LaneBook) → P (unnumbered j) b → P j b) → (n : ℕ) (js : List Job) (bs : List LaneBook) → AllZip P (take n (map unnumbered js)) bs → AllZip P (take n js) bs
zip_numbered P f zero js bs h = h
zip_numbered P f (suc n) [] bs h = h
zip_numbered P f (suc n) (j ∷ js) [] h = h
zip_numbered P f (suc n) (j ∷ js) (b ∷ bs) h = (f j b h.0, zip_numbered P f n js bs h.1)

all_numbered : (P : Job → LaneBook → Type 0) → ((j : Job) (b : LaneBook) → P (unnumbered j) b → P j b) → (js : List Job) (bs : List LaneBook) → AllZip P (map unnumbered js) bs → AllZip P js bs
all_numbered P f [] bs h = h
all_numbered P f (j ∷ js) [] h = h
all_numbered P f (j ∷ js) (b ∷ bs) h = (f j b h.0, all_numbered P f js bs h.1)

pub part_books : (workers : ℕ) (views js : List Job) (bs : List LaneBook) → views ≡ map unnumbered js → AllZip (IsPartBook workers) (take (length bs) views) bs → AllZip (IsPartBook workers) (take (length bs) js) bs
part_books workers views js bs e h =
    zip_numbered (IsPartBook workers) (part_numbered workers) (length bs) js bs (subst (λ (vs : List Job). AllZip (IsPartBook workers) (take (length bs) vs) bs) e h)

pub whole_books : (workers : ℕ) (views js : List Job) (bs : List LaneBook) → views ≡ map unnumbered js → AllZip (IsBookOf workers) views bs → AllZip (IsBookOf workers) js bs
whole_books workers views js bs e h = all_numbered (IsBookOf workers) (book_numbered workers) js bs (subst (λ (vs : List Job). AllZip (IsBookOf workers) vs bs) e h)

plain : {A : Type 0} (xs : List A) (n : ℕ) (x : A) → slice_get xs n ≡ Some x → slice_get xs (0 + n) ≡ Some x
plain xs n x at = subst (λ (k : ℕ). slice_get xs k ≡ Some x) (let z : n ≡ 0 + n = omega arith in z) at

-- what the lanes made is ready to be written
pub made_ready : (jobs : List TenantJob) (done : List TenantDone) (workers : ℕ) (set : List Chain) (inputs : List TenantInput) (tenants : List Tenant) (bs : List LaneBook) → AreTenants 0 set inputs tenants
    → map job_view jobs ≡ map unnumbered (jobs_of 0 set inputs) → AllZip (IsBookOf workers) (map job_view jobs) bs → AllMade (map job_view jobs) bs done
    → AreReady jobs done (refused_by (jobs_of 0 set inputs) bs) 0 set inputs tenants
made_ready jobs done workers set inputs tenants bs are views books made =
    all_ready jobs done (refused_by (jobs_of 0 set inputs) bs) 0 0 set inputs tenants jobs bs done (plain jobs) (plain done) views made
    (own_refused (jobs_of 0 set inputs) bs (IsBookOf workers) (numbers_rise 0 set inputs) (whole_books workers (map job_view jobs) (jobs_of 0 set inputs) bs views books)) are

pub adds_parts : (workers : ℕ) (jobs : List Job) (old new added : List LaneBook) → new ≡ old ++ added → AllZip (IsBookOf workers) jobs added → Adds workers jobs old new added
adds_parts workers jobs old new added after books = record { after = after; parts = parts_of_wholes workers jobs added books }

-- ALL TENANTS

pub inputs_long : (tells : Type 0) (t : ℕ) (set : List Chain) (first : Held) (now : FaultCounts) (inputs : List TenantInput) → AreInputs tells t set first now inputs → length set ≡ length inputs
inputs_long tells t [] first now [] are = refl
inputs_long tells t [] first now (i ∷ inputs) are = absurd are
inputs_long tells t (c ∷ set) first now [] are = absurd are
inputs_long tells t (c ∷ set) first now (i ∷ inputs) are = ap suc (inputs_long tells (suc t) set first now inputs are.1)

module _ (tells : Type 0) (out : List ℕ) (workers : ℕ) (set : List Chain) (first now : Held) (old new : List LaneBook) where
  no_books : (jobs : List Job) (added : List LaneBook) (r : Result (Vec LineInCode) NoMemory) → IsErr r → LinesHaveBooks workers jobs added r
  no_books jobs added (Ok lines) err = absurd (true≢false (sym err))
  no_books jobs added (Err e) err = tt

  -- memory ran out before the lanes
  pub set_none : (r : Result (Vec LineInCode) NoMemory) → IsErr r → (tells → AllStay first.files now.files) → new ≡ old → SetRan tells out workers set first now old new r
  set_none r err stay same = record {
    jobs = [];
    added = [];
    adds = record { after = same ∙ sym (append-nil old); parts = tt };
    rising = tt;
    are = λ x. tt;
    all = λ x. inl refl;
    touched = λ x. inl (stay x);
    others = λ x t chain at none. all_stay (file_names out chain) first.files now.files (stay x);
    ran = ran_none tells r out (refused_by [] []) set first now err (λ x. may_stay out (refused_by [] []) 0 set first.files now.files (stay x));
    books = no_books [] [] r err;
  }

  module _ (inputs : List TenantInput) (mid : Held) (can : CanRun tells out 0 set first mid inputs) (stay : tells → AllStay first.files mid.files) (later : NoneFell mid now) where
    abbrev own : List Job
    own = jobs_of 0 set inputs

    have : tells → HaveJobs tells out workers set first now own
    have x t chain c at captured none =
        let n : t ≡ 0 + t = omega arith in
        subst (Contains (numbers_in own)) (sym n)
        (has_job tells 0 set first mid.faults now inputs t chain c later can.read x at captured
        (subst (λ (k : ℕ). ¬ (Rose (first.faults (reading_account k) chain.capture) (now.faults (reading_account k) chain.capture))) n none))

    are_own : tells → AllByRecursion (IsJob set first.files) own
    are_own x = jobs_are tells set 0 set first mid.faults inputs (plain set) can.read x

    may_of : (added : List LaneBook) (told : List Line) (r : Result (Unit {0}) NoMemory) → IsErr r → WroteLines tells out 0 (refused_by own added) set inputs first.faults mid now [] told r
        → tells → TenantsMay out (refused_by own added) 0 set mid.files now.files
    may_of added told (Ok d) err w = absurd (true≢false (sym err))
    may_of added told (Err e) err w = w

    -- a tenant without a job
    spared : (files : Files) → (tells → AllStay first.files mid.files) → (tells → UnreadStay out set inputs mid.files files) → tells → (t : ℕ) (chain : Chain) → IsTenant set t chain → ¬ (Contains (numbers_in own) t)
        → NoneTouched (file_names out chain) first.files files
    spared files stays unread x t chain at none = same_then (file_names out chain) first.files mid.files files (all_stay (file_names out chain) first.files mid.files (stays x))
        (none_without out 0 set inputs mid.files files t chain (inputs_long tells 0 set first mid.faults inputs can.read) (unread x) at
        (subst (λ (k : ℕ). ¬ (Contains (numbers_in own) k)) (let z : t ≡ 0 + t = omega arith in z) none))

    -- memory ran out in the lanes, or in writing
    pub set_failed : (told : List Line) (r : Result (Unit {0}) NoMemory) → JobsRan tells out workers set inputs first mid now old new told r → IsErr r
        → (s : Result (Vec LineInCode) NoMemory) → IsErr s → SetRan tells out workers set first now old new s
    set_failed told r j err s fails = by j.ran
      where
        by : (IsErr r × (now ≡ mid)) ⊎ (AllZip (IsBookOf workers) own j.added × WroteAll tells out 0 (refused_by own j.added) set inputs first.faults mid now [] told r)
            → SetRan tells out workers set first now old new s
        by (inl none) = record {
          jobs = own;
          added = j.added;
          adds = j.adds;
          rising = numbers_rise 0 set inputs;
          are = are_own;
          all = λ x. inr (have x);
          touched = λ x. inl (stays x);
          others = λ x t chain at no_job. all_stay (file_names out chain) first.files now.files (stays x);
          ran = ran_none tells s out (refused_by own j.added) set first now fails (λ x. may_stay out (refused_by own j.added) 0 set first.files now.files (stays x));
          books = no_books own j.added s fails;
        }
          where
            stays : tells → AllStay first.files now.files
            stays x = subst (λ (h : Held). AllStay first.files h.files) (sym none.1) (stay x)
        by (inr wrote) = record {
          jobs = own;
          added = j.added;
          adds = j.adds;
          rising = numbers_rise 0 set inputs;
          are = are_own;
          all = λ x. inr (have x);
          touched = λ x. inr wrote.0;
          others = spared now.files stay wrote.1.unread;
          ran = ran_none tells s out (refused_by own j.added) set first now fails
              (λ x. may_after out (refused_by own j.added) 0 set first.files mid.files now.files (stay x) (may_of j.added told r err wrote.1.lines x));
          books = no_books own j.added s fails;
        }

    -- all were written
    pub set_ran : (told : List Line) → JobsRan tells out workers set inputs first mid now old new told (Ok tt) → (lines : Vec LineInCode) → told ≡ map line_view lines.items
        → SetRan tells out workers set first now old new (Ok lines)
    set_ran told j lines is = by j.ran
      where
        by : (IsErr {T = Unit {0}} {E = NoMemory} (Ok tt) × (now ≡ mid)) ⊎ (AllZip (IsBookOf workers) own j.added × WroteAll tells out 0 (refused_by own j.added) set inputs first.faults mid now [] told (Ok tt))
            → SetRan tells out workers set first now old new (Ok lines)
        by (inl none) = absurd (true≢false (sym none.0))
        by (inr wrote) =
            let l : WroteLines tells out 0 (refused_by own j.added) set inputs first.faults mid now [] told (Ok tt) = wrote.1.lines in
            let same : l.0 ≡ map line_view lines.items = sym l.1 ∙ is in
            record {
              jobs = own;
              added = j.added;
              adds = j.adds;
              rising = numbers_rise 0 set inputs;
              are = are_own;
              all = λ x. inr (have x);
              touched = λ x. inr wrote.0;
              others = spared now.files stay wrote.1.unread;
              ran = (mid, stay, subst (TenantsRan tells out first.faults (refused_by own j.added) 0 set mid now) same l.3);
              books = record { all = sym l.2 ∙ ap (numbers_read 0) same; each = wrote.0 };
            }
