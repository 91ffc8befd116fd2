-- The promises of a run over lanes, from what its parts did.
use Rattle.std.proofs.Common.{◌≡◌, ◌⊎◌, inl, inr, ℕ, ◌≤◌, ◌<◌, List, [], ◌∷◌, ◌++◌, refl, sym, ◌∙◌, ap, subst, arith, codes}
use Rattle.chain_spec.specs.ChainFault.{ChainFault}
use Rattle.chain_spec.specs.ChainSet.{Chain}
use Rattle.brick_spec.specs.Files.{AppendsFront}
use Rattle.lane_spec.specs.LaneBook.{LaneBook}
use Rattle.run_spec.specs.Books.{Job, refused_by}
use Rattle.run_spec.specs.Isolation.{Refusals, none_refused, HasLines, SetPromises}
use Rattle.run_spec.specs.Lanes.{AllHaveJobs, numbers_read, RunPromises}
use Rattle.run_spec.specs.Report.{Line, Outcome, Usage, ChainsRefused, StoreFault, NoMemory, Checked, Reported, lines_of, status_of}
use Rattle.run_spec.specs.Seen.{Held, Printed, Seen, Says}
use Rattle.lane_runs.specs.Ran.{HaveBooks, HaveJobs, OutcomeHasBooks, FilesRan}
use Rattle.lane_runs.proofs.Filing.{lanes_unread}
use Rattle.bricks_main.proofs.Promises.{Ran, StatusIs, status_is, IsRun, is_run, has_lines, report_status, three_status, promises_kept, outcome_kept}

-- WHERE NO LANE WAS STARTED

four_status : (o : Outcome) (s : ℕ) → IsRun o → StatusIs o s → s ≡ 4 → o ≡ StoreFault
four_status Usage s run (inl is) e = absurd (omega arith)
four_status Usage s run (inr is) e = absurd (omega arith)
four_status (ChainsRefused f) s run (inl is) e = absurd (omega arith)
four_status (ChainsRefused f) s run (inr is) e = absurd (omega arith)
four_status StoreFault s run is e = refl
four_status NoMemory s run is e = absurd (omega arith)
four_status (Checked names) s run is e = absurd run
four_status (Reported lines) s run (inl is) e = absurd (omega (arith, report_status lines, is, e))
four_status (Reported lines) s run (inr (inl is)) e = absurd (omega arith)
four_status (Reported lines) s run (inr (inr is)) e = absurd (omega arith)

none_started : (workers : ℕ) (jobs : List Job) (added : List LaneBook) (o : Outcome) (s : ℕ) → IsRun o → StatusIs o s → OutcomeHasBooks workers jobs added o → (s ≡ 3) ⊎ (s ≡ 4) → added ≡ []
none_started workers jobs added o s run is has (inl three) =
    let f : (f : ChainFault) × (o ≡ ChainsRefused f) = three_status o s is three in
    subst (OutcomeHasBooks workers jobs added) f.1 has
none_started workers jobs added o s run is has (inr four) = subst (OutcomeHasBooks workers jobs added) (four_status o s run is four) has

-- THE BOOKS OF A REPORT

report_books : (workers : ℕ) (jobs : List Job) (added : List LaneBook) (o : Outcome) (lines : List Line) → o ≡ Reported lines → OutcomeHasBooks workers jobs added o → HaveBooks workers jobs added (lines_of o)
report_books workers jobs added o lines e has =
    subst (λ (x : Outcome). HaveBooks workers jobs added (lines_of x)) (sym e) (subst (OutcomeHasBooks workers jobs added) e has)

-- THE JOBS

module _ (tells shows : Type 0) (chains out : List ℕ) (workers : ℕ) (before now : Seen) (old new : List LaneBook) (s : ℕ) where
  all_have : (jobs : List Job) (added : List LaneBook) → (added ≡ []) ⊎ ((set : List Chain) → Says chains out before.store.files set → HaveJobs tells out workers set before.store now.store jobs)
      → (added ≡ []) ⊎ AllHaveJobs tells shows chains out workers before now old new s jobs
  all_have jobs added (inl none) = inl none
  all_have jobs added (inr have) = inr (λ set t chain c says at captured none. have set says t chain c at captured none)

pub lanes_kept : (tells shows : Type 0) (chains out : List ℕ) (workers : ℕ) (before now : Seen) (old new : List LaneBook) (o : Outcome) (s : ℕ) → (f : FilesRan tells chains out workers before.store now.store old new o)
    → Ran tells shows chains out (refused_by f.jobs f.added) before now o s → RunPromises tells shows chains out workers before now old new s
lanes_kept tells shows chains out workers before now old new o s f r =
    let is : StatusIs o s = status_is o s r.told in
    let run : IsRun o = is_run tells chains out (refused_by f.jobs f.added) before.store now.store o r.is_true in
    record {
      jobs = f.jobs;
      added = f.added;
      rising = f.rising;
      are_jobs = f.are_jobs;
      after = f.adds.after;
      set = promises_kept tells shows chains out (refused_by f.jobs f.added) before now o s r;
      books = λ has.
          let lines = has_lines o s run is has in
          let b = report_books workers f.jobs f.added o lines.0 lines.1 f.books in
          record {
            all = b.all ∙ ap (λ (x : Outcome). numbers_read 0 (lines_of x)) (sym (outcome_kept tells shows chains out (refused_by f.jobs f.added) before now o s r));
            each = b.each;
          };
      memory = λ six. record {
        each = f.adds.parts;
        all = λ x. all_have tells shows chains out workers before now old new s f.jobs f.added (f.all x);
        touched = f.touched;
        others = f.others;
      };
      none = none_started workers f.jobs f.added o s run is f.books;
    }

-- WHERE MEMORY RAN OUT before the words were read

pub early : (tells shows : Type 0) (chains out : List ℕ) (refused : Refusals) (store : Held) (before now : Printed) → (shows → AppendsFront (codes "out of memory\n") before.bytes now.bytes)
    → Ran tells shows chains out refused (record { store = store; sink = before }) (record { store = store; sink = now }) NoMemory 6
early tells shows chains out refused store before now front = record {
  is_true = λ x. inl (λ name. refl);
  told = inl refl;
  sink = λ e. absurd (omega arith);
  shown = λ w. record { front = front w; whole = inr (inl refl); report = λ low. absurd (omega arith) };
  counts = λ a n over. refl;
  tenants = λ x set says a n over. refl;
}

pub early_inline : (tells shows : Type 0) (chains out : List ℕ) (store : Held) (before now : Printed) (s : ℕ) → s ≡ 6 → (shows → AppendsFront (codes "out of memory\n") before.bytes now.bytes)
    → SetPromises tells shows chains out none_refused (record { store = store; sink = before }) (record { store = store; sink = now }) s
early_inline tells shows chains out store before now s six front =
    subst (SetPromises tells shows chains out none_refused (record { store = store; sink = before }) (record { store = store; sink = now })) (sym six)
    (promises_kept tells shows chains out none_refused (record { store = store; sink = before }) (record { store = store; sink = now }) NoMemory 6 (early tells shows chains out none_refused store before now front))

pub early_run : (tells shows : Type 0) (chains out : List ℕ) (workers : ℕ) (books : List LaneBook) (store : Held) (before now : Printed) (s : ℕ) → s ≡ 6 → (shows → AppendsFront (codes "out of memory\n") before.bytes now.bytes)
    → RunPromises tells shows chains out workers (record { store = store; sink = before }) (record { store = store; sink = now }) books books s
early_run tells shows chains out workers books store before now s six front =
    subst (RunPromises tells shows chains out workers (record { store = store; sink = before }) (record { store = store; sink = now }) books books) (sym six)
    (let f : FilesRan tells chains out workers store store books books NoMemory = lanes_unread tells chains out workers store store books (λ x name. refl) in
    lanes_kept tells shows chains out workers (record { store = store; sink = before }) (record { store = store; sink = now }) books books NoMemory 6 f (early tells shows chains out (refused_by f.jobs f.added) store before now front))
