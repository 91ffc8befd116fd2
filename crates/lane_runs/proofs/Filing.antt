-- A run over lanes from the reading of the chain file on.
use Rattle.std.proofs.Common.{◌≡◌, ◌⊎◌, inl, inr, ℕ, ◌≤◌, List, [], ◌∷◌, ◌++◌, map, length, refl, sym, ap, ◌∙◌, subst, arith, append-nil}
use Rattle.std.specs.Prelude.{Ok, Err, Contains, Result, Option, Some, None, IfSome, IsSomeAnd}
use Rattle.std.specs.List.{AllByRecursion, AllZip}
use Rattle.std.specs.Global.{Vec}
use Rattle.brick_base.specs.declared.memory.NoMemory.{NoMemory}
use Rattle.brick_spec.specs.Capture.{Contents, IsReadable}
use Rattle.brick_spec.specs.Cause.{Rose, reading_account, chains_account}
use Rattle.brick_spec.specs.Files.{Files, AllStay}
use Rattle.chain_spec.specs.ChainFault.{ChainFault}
use Rattle.chain_spec.specs.ChainSet.{Chain, file_names}
use Rattle.lane_spec.specs.LaneBook.{LaneBook}
use Rattle.run_spec.specs.Books.{Job, refused_by, IsBookOf}
use Rattle.run_spec.specs.Isolation.{IsTrueOf}
use Rattle.run_spec.specs.Lanes.{numbers_in}
use Rattle.run_spec.specs.Report.{Line, Outcome, ChainsRefused, StoreFault, Reported}
use Rattle.run_spec.specs.Report as outcome
use Rattle.run_spec.specs.Seen.{Held, CountRose, Says, Refuses, IsTenant, Captured}
use Rattle.run_spec.specs.Subject.{NoneTouched}
use Rattle.run_spec.specs.Tenants.{NoneFell, AllApart}
use Rattle.run_spec.proofs.Set.{same_then, all_stay}
use Rattle.run_report.specs.View.{line_view, refused_view}
use Rattle.run_report.specs.declared.report.Line.{Line as LineInCode}
use Rattle.tenant_files.proofs.Sets.{one_set}
use Rattle.tenant_files.proofs.Whole.{reported_true, stopped_true}
use Rattle.lane_runs.specs.Jobs.{IsJob}
use Rattle.lane_runs.specs.Ran.{Adds, HaveJobs, SetRan, OutcomeHasBooks, FilesRan}

-- WHERE NO LANE WAS STARTED

module _ (tells : Type 0) (chains out : List ℕ) (workers : ℕ) (before now : Held) (books : List LaneBook) where
  no_lanes : (o : Outcome) → (tells → AllStay before.files now.files) → IsTrueOf tells chains out (refused_by [] []) before now o → OutcomeHasBooks workers [] [] o
      → FilesRan tells chains out workers before now books books o
  no_lanes o stay true_of has = record {
    jobs = [];
    added = [];
    adds = record { after = sym (append-nil books); parts = tt };
    rising = tt;
    are_jobs = λ x. inl refl;
    all = λ x. inl refl;
    touched = λ x. inl (stay x);
    others = λ x set t chain says at none. all_stay (file_names out chain) before.files now.files (stay x);
    is_true = true_of;
    books = has;
  }

  pub lanes_refused : (fault : Option ChainFault) → (tells → AllStay before.files now.files) → (tells → IfSome fault (Refuses chains out before.files)) → FilesRan tells chains out workers before now books books (refused_view fault)
  lanes_refused None stay refuses = no_lanes outcome.NoMemory stay (λ x. inl (stay x)) tt
  lanes_refused (Some f) stay refuses = no_lanes (ChainsRefused f) stay (λ x. (refuses x, stay x)) refl

  pub lanes_failed : (tells → AllStay before.files now.files) → CountRose chains_account chains before now → FilesRan tells chains out workers before now books books StoreFault
  lanes_failed stay rose = no_lanes StoreFault stay (rose, stay) refl

  pub lanes_unread : (tells → AllStay before.files now.files) → FilesRan tells chains out workers before now books books outcome.NoMemory
  lanes_unread stay = no_lanes outcome.NoMemory stay (λ x. inl (stay x)) tt

-- WHERE THE TENANTS WERE RUN

module _ (tells : Type 0) (chains out : List ℕ) (workers : ℕ) (set : List Chain) (first mid now : Held) (old new : List LaneBook) (stay : tells → AllStay first.files mid.files)
    (says : tells → Says chains out first.files set) (apart : AllApart out set) (since : NoneFell first mid) where
  captured_first : tells → (name : List ℕ) (c : Contents) → Captured mid.files name c → Captured first.files name c
  captured_first x name c h = subst (λ (o : Option (List ℕ)). IsSomeAnd o (λ bytes. IsReadable bytes c)) (stay x name) h

  captured_mid : tells → (name : List ℕ) (c : Contents) → Captured first.files name c → Captured mid.files name c
  captured_mid x name c h = subst (λ (o : Option (List ℕ)). IsSomeAnd o (λ bytes. IsReadable bytes c)) (sym (stay x name)) h

  jobs_first : tells → (jobs : List Job) → AllByRecursion (IsJob set mid.files) jobs → AllByRecursion (λ (j : Job). IsTenant set j.number j.chain × Captured first.files j.chain.capture j.capture) jobs
  jobs_first x [] h = tt
  jobs_first x (j ∷ jobs) h = ((h.0.0, captured_first x j.chain.capture j.capture h.0.1), jobs_first x jobs h.1)

  have_first : tells → (jobs : List Job) → HaveJobs tells out workers set mid now jobs → (set' : List Chain) → Says chains out first.files set' → HaveJobs tells out workers set' first now jobs
  have_first x jobs have set' said t chain c at captured none =
      have t chain c (subst (λ (s : List Chain). IsTenant s t chain) (one_set chains out first.files set' set said (says x)) at) (captured_mid x chain.capture c captured)
      (λ rose. none (rose_since _ _ _ (since (reading_account t) chain.capture) rose))
    where
      rose_since : (a b e : ℕ) → a ≤ b → Rose b e → Rose a e
      rose_since a b e l r = omega arith

  all_first : tells → (jobs : List Job) (added : List LaneBook) → (added ≡ []) ⊎ HaveJobs tells out workers set mid now jobs
      → (added ≡ []) ⊎ ((set' : List Chain) → Says chains out first.files set' → HaveJobs tells out workers set' first now jobs)
  all_first x jobs added (inl none) = inl none
  all_first x jobs added (inr have) = inr (have_first x jobs have)

  touched_first : tells → (whole : Type 0) → AllStay mid.files now.files ⊎ whole → AllStay first.files now.files ⊎ whole
  touched_first x whole (inl stays) = inl (λ name. stays name ∙ stay x name)
  touched_first x whole (inr books) = inr books

  others_first : tells → (jobs : List Job) → ((t : ℕ) (chain : Chain) → IsTenant set t chain → ¬ (Contains (numbers_in jobs) t) → NoneTouched (file_names out chain) mid.files now.files)
      → (set' : List Chain) (t : ℕ) (chain : Chain) → Says chains out first.files set' → IsTenant set' t chain → ¬ (Contains (numbers_in jobs) t) → NoneTouched (file_names out chain) first.files now.files
  others_first x jobs others set' t chain said at none =
      same_then (file_names out chain) first.files mid.files now.files (all_stay (file_names out chain) first.files mid.files (stay x))
      (others t chain (subst (λ (s : List Chain). IsTenant s t chain) (one_set chains out first.files set' set said (says x)) at) none)

  pub lanes_reported : (lines : Vec LineInCode) → SetRan tells out workers set mid now old new (Ok lines) → FilesRan tells chains out workers first now old new (Reported (map line_view lines.items))
  lanes_reported lines r = record {
    jobs = r.jobs;
    added = r.added;
    adds = r.adds;
    rising = r.rising;
    are_jobs = λ x. inr (set, says x, jobs_first x r.jobs (r.are x));
    all = λ x. all_first x r.jobs r.added (r.all x);
    touched = λ x. touched_first x (AllZip (IsBookOf workers) r.jobs r.added) (r.touched x);
    others = λ x. others_first x r.jobs (r.others x);
    is_true = reported_true tells chains out (refused_by r.jobs r.added) set first mid now stay says apart lines since r.ran;
    books = r.books;
  }

  pub lanes_stopped : (e : NoMemory) → SetRan tells out workers set mid now old new (Err e) → FilesRan tells chains out workers first now old new outcome.NoMemory
  lanes_stopped e r = record {
    jobs = r.jobs;
    added = r.added;
    adds = r.adds;
    rising = r.rising;
    are_jobs = λ x. inr (set, says x, jobs_first x r.jobs (r.are x));
    all = λ x. all_first x r.jobs r.added (r.all x);
    touched = λ x. touched_first x (AllZip (IsBookOf workers) r.jobs r.added) (r.touched x);
    others = λ x. others_first x r.jobs (r.others x);
    is_true = stopped_true tells chains out (refused_by r.jobs r.added) set first mid now stay says apart e r.ran;
    books = tt;
  }
