-- Tenants written one after another.
use Rattle.std.proofs.Common.{◌≡◌, ◌≢◌, ◌⊎◌, inl, inr, ℕ, suc, ◌+◌, List, [], ◌∷◌, ◌++◌, refl, sym, ap, ◌∙◌, subst, true≢false, append_assoc, append-nil, add-one}
use Rattle.std.specs.Prelude.{Result, Ok, Err, IsErr, true, false, if◌then◌else◌, Bool}
use Rattle.std.specs.List.{AllByRecursion}
use Rattle.brick_base.specs.declared.memory.NoMemory.{NoMemory}
use Rattle.brick_spec.specs.Files.{Files, FaultCounts, AllStay}
use Rattle.brick_spec.specs.Texts.{OthersStayOf}
use Rattle.chain_spec.specs.ChainSet.{Chain, file_names, run_files}
use Rattle.run_spec.specs.Isolation.{Refusals}
use Rattle.run_spec.specs.Lanes.{numbers_in, numbers_read}
use Rattle.run_spec.specs.Report.{Line, TenantEnd, Done, TooLong, BadCapture, ReadFault, WriteFault, end_was_read}
use Rattle.run_spec.specs.Seen.{Held}
use Rattle.run_spec.specs.Subject.{NoneTouched}
use Rattle.run_spec.specs.Tenants.{NoneFell, IsApart, TenantsApart, AllApart, TenantsRan, TenantsMay}
use Rattle.run_spec.proofs.Set.{same_refl, same_then, stay, all_stay, parts}
use Rattle.run_report.specs.View.{end_view, line_view}
use Rattle.run_report.specs.declared.report.TenantEnd.{TenantEnd as EndInCode}
use Rattle.work_core.specs.declared.job.TenantDone.{TenantDone}
use Rattle.work_core.specs.declared.job.TenantJob.{TenantJob}
use Rattle.tenant_files.specs.Run.{HasEnded, RanOn, CanRun}
use Rattle.tenant_files.specs.Written.{WroteEnd}
use Rattle.tenant_files.specs.declared.inputs.TenantInput.{TenantInput}
use Rattle.tenant_files.specs.declared.inputs.TenantInput.TheVariants as input
use Rattle.tenant_files.proofs.Steps.{may_none, failed_first, stopped_behind, can_behind, failed_behind, ran_all}
use Rattle.lane_runs.specs.declared.jobs.Tenant.{Tenant}
use Rattle.lane_runs.specs.Jobs.{is_whole, own_job, jobs_of}
use Rattle.lane_runs.specs.Writing.{IsReady, AreReady, CanWrite, UnreadStay, WroteLines, WroteAll}

-- FILES THAT STAY

unread_same : (out : List ℕ) (set : List Chain) (inputs : List TenantInput) (files : Files) → UnreadStay out set inputs files files
unread_same out [] inputs files = tt
unread_same out (c ∷ set) [] files = tt
unread_same out (c ∷ set) (i ∷ inputs) files = (λ none. same_refl (file_names out c) files, unread_same out set inputs files)

-- where no name is touched but the files of another tenant
unread_apart : (out : List ℕ) (c : Chain) (set : List Chain) (inputs : List TenantInput) (old new : Files) → OthersStayOf (file_names out c) old new → AllByRecursion (TenantsApart out c) set → UnreadStay out set inputs old new
unread_apart out c [] inputs old new others apart = tt
unread_apart out c (d ∷ set) [] old new others apart = tt
unread_apart out c (d ∷ set) (i ∷ inputs) old new others apart =
    (λ none. stay (file_names out c) (file_names out d) old new others apart.0.back, unread_apart out c set inputs old new others apart.1)

unread_then : (out : List ℕ) (set : List Chain) (inputs : List TenantInput) (f g h : Files) → UnreadStay out set inputs f g → UnreadStay out set inputs g h → UnreadStay out set inputs f h
unread_then out [] inputs f g h a b = tt
unread_then out (c ∷ set) [] f g h a b = tt
unread_then out (c ∷ set) (i ∷ inputs) f g h a b = (λ none. same_then (file_names out c) f g h (a.0 none) (b.0 none), unread_then out set inputs f g h a.1 b.1)

joined : (P : List ℕ → Type 0) (xs ys : List (List ℕ)) → AllByRecursion P xs → AllByRecursion P ys → AllByRecursion P (xs ++ ys)
joined P [] ys a b = b
joined P (x ∷ xs) ys a b = (a.0, joined P xs ys a.1 b)

-- the files of a tenant are none of the files of the others
apart_from : (out : List ℕ) (c : Chain) (set : List Chain) → AllByRecursion (TenantsApart out c) set → AllByRecursion (IsApart (run_files out set)) (file_names out c)
apart_from out c [] apart = none (file_names out c)
  where
    none : (names : List (List ℕ)) → AllByRecursion (IsApart []) names
    none [] = tt
    none (n ∷ names) = (tt, none names)
apart_from out c (d ∷ set) apart = both (file_names out c) apart.0.files (apart_from out c set apart.1)
  where
    both : (names : List (List ℕ)) → AllByRecursion (IsApart (file_names out d)) names → AllByRecursion (IsApart (run_files out set)) names → AllByRecursion (IsApart (run_files out (d ∷ set))) names
    both [] a b = tt
    both (n ∷ names) a b = (joined (λ m. n ≢ m) (file_names out d) (run_files out set) a.0 b.0, both names a.1 b.1)

others_first : (out : List ℕ) (c : Chain) (set : List Chain) (old new : Files) → OthersStayOf (file_names out c) old new → OthersStayOf (run_files out (c ∷ set)) old new
others_first out c set old new others name apart = others name (parts (λ n. name ≢ n) (file_names out c) (run_files out set) apart).0

others_both : (out : List ℕ) (c : Chain) (set : List Chain) (old mid new : Files) → OthersStayOf (file_names out c) old mid → OthersStayOf (run_files out set) mid new → OthersStayOf (run_files out (c ∷ set)) old new
others_both out c set old mid new one more name apart =
    let p = parts (λ n. name ≢ n) (file_names out c) (run_files out set) apart in
    more name p.1 ∙ one name p.0

-- WHAT THE FIRST TENANT LEAVES

module _ (tells : Type 0) (out : List ℕ) (t : ℕ) (c : Chain) (refused : List ℕ) (before now : Held) where
  first_others : (i : TenantInput) (r : Result EndInCode NoMemory) → RanOn tells out t c refused i before now r → tells → OthersStayOf (file_names out c) before.files now.files
  first_others (input.Whole k) (Ok end) ran x = wrote (end_view end) ran
    where
      wrote : (end : TenantEnd) → WroteEnd tells out t c refused k before now end → OthersStayOf (file_names out c) before.files now.files
      wrote (Done tally) w = (w.1 x).1
      wrote WriteFault w = (w.1 x).1
      wrote TooLong w = absurd w
      wrote (BadCapture f) w = absurd w
      wrote ReadFault w = absurd w
  first_others (input.Whole k) (Err e) ran x = (ran x).1
  first_others input.TooLong (Ok end) ran x = λ name apart. ran.1 x name
  first_others input.TooLong (Err e) ran x = absurd ran
  first_others (input.Bad f) (Ok end) ran x = λ name apart. ran.1 x name
  first_others (input.Bad f) (Err e) ran x = absurd ran
  first_others input.Unread (Ok end) ran x = λ name apart. ran.1 x name
  first_others input.Unread (Err e) ran x = absurd ran

  -- one that was not read whole touches no file
  first_stays : (i : TenantInput) (r : Result EndInCode NoMemory) → RanOn tells out t c refused i before now r → is_whole i ≡ false → tells → AllStay before.files now.files
  first_stays (input.Whole k) r ran none x = absurd (true≢false none)
  first_stays input.TooLong (Ok end) ran none x = ran.1 x
  first_stays input.TooLong (Err e) ran none x = absurd ran
  first_stays (input.Bad f) (Ok end) ran none x = ran.1 x
  first_stays (input.Bad f) (Err e) ran none x = absurd ran
  first_stays input.Unread (Ok end) ran none x = ran.1 x
  first_stays input.Unread (Err e) ran none x = absurd ran

  -- its line tells that its capture was read whole exactly where it was
  first_read : (i : TenantInput) (end : EndInCode) → RanOn tells out t c refused i before now (Ok end) → end_was_read (end_view end) ≡ is_whole i
  first_read (input.Whole k) end ran = wrote (end_view end) ran
    where
      wrote : (end : TenantEnd) → WroteEnd tells out t c refused k before now end → end_was_read end ≡ true
      wrote (Done tally) w = refl
      wrote WriteFault w = refl
      wrote TooLong w = absurd w
      wrote (BadCapture f) w = absurd w
      wrote ReadFault w = absurd w
  first_read input.TooLong end ran = ap end_was_read ran.0
  first_read (input.Bad f) end ran = ap end_was_read ran.0
  first_read input.Unread end ran = ap end_was_read ran.0

numbers_first : (t : ℕ) (c : Chain) (i : TenantInput) (line : Line) (told : List Line) (set : List Chain) (inputs : List TenantInput) → end_was_read line.end ≡ is_whole i
    → numbers_read (suc t) told ≡ numbers_in (jobs_of (suc t) set inputs) → numbers_read t (line ∷ told) ≡ numbers_in (jobs_of t (c ∷ set) (i ∷ inputs))
numbers_first t c i line told set inputs read more =
    ap (λ (b : Bool). let ns : List ℕ = if b then t ∷ numbers_read (suc t) told else numbers_read (suc t) told in ns) read ∙ by i
  where
    by : (i : TenantInput) → ◌≡◌ {A = List ℕ} (if is_whole i then t ∷ numbers_read (suc t) told else numbers_read (suc t) told) (numbers_in (own_job t c i ++ jobs_of (suc t) set inputs))
    by (input.Whole k) = ap (λ ns. t ∷ ns) more
    by input.TooLong = more
    by (input.Bad f) = more
    by input.Unread = more

-- both failed, or neither did
abbrev pub IsAlike : Result (Unit {0}) NoMemory → Result (Unit {0}) NoMemory → Type 0
IsAlike r s = (IsErr r × IsErr s) ⊎ ((r ≡ Ok tt) × (s ≡ Ok tt))

err_too : (e : NoMemory) (s : Result (Unit {0}) NoMemory) → IsAlike (Err e) s → IsErr s
err_too e s (inl both) = both.1
err_too e s (inr none) = let clash : ◌≡◌ {A = Result (Unit {0}) NoMemory} (Err e) (Ok tt) = none.0 in cc

ok_too : (s : Result (Unit {0}) NoMemory) → IsAlike (Ok tt) s → s ≡ Ok tt
ok_too s (inl both) = absurd (true≢false (sym both.0))
ok_too s (inr none) = none.1

pub err_of : (r : Result (Unit {0}) NoMemory) (e : NoMemory) → r ≡ Err e → IsErr r
err_of r e is = subst IsErr (sym is) refl

-- ALL TENANTS

module _ (tells : Type 0) (out : List ℕ) (refused : Refusals) (first : Held) (jobs : List TenantJob) (done : List TenantDone) (old : List Line) where
  -- there are none
  pub all_written : (t : ℕ) (set : List Chain) (inputs : List TenantInput) (before : Held) → CanWrite tells out t refused set inputs first before jobs done []
      → WroteAll tells out t refused set inputs first.faults before before old old (Ok tt)
  all_written t [] [] before can = record {
    lines = ([], sym (append-nil old), refl, record { files = λ x name. refl; later = λ a n. omega Rattle.std.proofs.Common.arith });
    others = λ x name apart. refl;
    unread = λ x. tt;
  }
  all_written t [] (i ∷ inputs) before can = absurd can.ready
  all_written t (c ∷ set) [] before can = absurd can.ready
  all_written t (c ∷ set) (i ∷ inputs) before can = absurd can.ready

  lines_none : (t : ℕ) (set : List Chain) (inputs : List TenantInput) (before now : Held) (new : List Line) (r : Result (Unit {0}) NoMemory) → IsErr r → (tells → TenantsMay out refused t set before.files now.files)
      → WroteLines tells out t refused set inputs first.faults before now old new r
  lines_none t set inputs before now new (Ok d) err may = absurd (true≢false (sym err))
  lines_none t set inputs before now new (Err e) err may = may

  -- memory ran out before the first
  pub none_written : (t : ℕ) (set : List Chain) (inputs : List TenantInput) (before : Held) (new : List Line) (r : Result (Unit {0}) NoMemory) → IsErr r → WroteAll tells out t refused set inputs first.faults before before old new r
  none_written t set inputs before new r err = record {
    lines = lines_none t set inputs before before new r err (λ x. may_none out refused t set before.files);
    others = λ x name apart. refl;
    unread = λ x. unread_same out set inputs before.files;
  }

  module _ (w : Tenant) (ws : List Tenant) (before mid : Held) where
    -- in the first
    pub first_failed : (t : ℕ) (set : List Chain) (inputs : List TenantInput) → CanWrite tells out t refused set inputs first before jobs done (w ∷ ws) → (e : NoMemory)
        → ((chain : Chain) (rs : List ℕ) (i : TenantInput) → IsReady jobs done chain rs i w.part → RanOn tells out t chain rs i before mid (Err e))
        → (new : List Line) (r : Result (Unit {0}) NoMemory) → IsErr r → WroteAll tells out t refused set inputs first.faults before mid old new r
    first_failed t [] [] can e ran new r err = absurd can.ready
    first_failed t [] (i ∷ inputs) can e ran new r err = absurd can.ready
    first_failed t (c ∷ set) [] can e ran new r err = absurd can.ready
    first_failed t (c ∷ set) (i ∷ inputs) can e ran new r err =
        let one : RanOn tells out t c (refused t) i before mid (Err e) = ran c (refused t) i can.ready.1 in
        record {
          lines = lines_none t (c ∷ set) (i ∷ inputs) before mid new r err (failed_first tells out refused t (c ∷ set) c set (i ∷ inputs) i inputs refl refl first before can.can mid e one);
          others = λ x. others_first out c set before.files mid.files (first_others tells out t c (refused t) before mid i (Err e) one x);
          unread = λ x. (
            λ none. all_stay (file_names out c) before.files mid.files (first_stays tells out t c (refused t) before mid i (Err e) one none x),
            unread_apart out c set inputs before.files mid.files (first_others tells out t c (refused t) before mid i (Err e) one x) can.can.apart.0,
          );
        }

    module _ (end : EndInCode) (later : NoneFell before mid) where
      -- behind the first
      pub first_alone : (t : ℕ) (set : List Chain) (inputs : List TenantInput) → CanWrite tells out t refused set inputs first before jobs done (w ∷ ws)
          → ((chain : Chain) (rs : List ℕ) (i : TenantInput) → IsReady jobs done chain rs i w.part → RanOn tells out t chain rs i before mid (Ok end))
          → (new : List Line) (r : Result (Unit {0}) NoMemory) → IsErr r → WroteAll tells out t refused set inputs first.faults before mid old new r
      first_alone t [] [] can ran new r err = absurd can.ready
      first_alone t [] (i ∷ inputs) can ran new r err = absurd can.ready
      first_alone t (c ∷ set) [] can ran new r err = absurd can.ready
      first_alone t (c ∷ set) (i ∷ inputs) can ran new r err =
          let one : RanOn tells out t c (refused t) i before mid (Ok end) = ran c (refused t) i can.ready.1 in
          record {
            lines = lines_none t (c ∷ set) (i ∷ inputs) before mid new r err (stopped_behind tells out refused t (c ∷ set) c set (i ∷ inputs) i inputs refl refl first before can.can mid end later one);
            others = λ x. others_first out c set before.files mid.files (first_others tells out t c (refused t) before mid i (Ok end) one x);
            unread = λ x. (
              λ none. all_stay (file_names out c) before.files mid.files (first_stays tells out t c (refused t) before mid i (Ok end) one none x),
              unread_apart out c set inputs before.files mid.files (first_others tells out t c (refused t) before mid i (Ok end) one x) can.can.apart.0,
            );
          }

      -- the others were written too, or memory ran out in them
      pub all_more : (t n : ℕ) → n ≡ suc t → (set : List Chain) (inputs : List TenantInput) → CanWrite tells out t refused set inputs first before jobs done (w ∷ ws)
          → ((chain : Chain) (rs : List ℕ) (i : TenantInput) → IsReady jobs done chain rs i w.part → RanOn tells out t chain rs i before mid (Ok end))
          → (now : Held) (name : List ℕ) (between new : List Line) (r s : Result (Unit {0}) NoMemory) → between ≡ old ++ record { name = name; end = end_view end } ∷ [] → name ≡ w.name
          → ((set : List Chain) (inputs : List TenantInput) → CanWrite tells out n refused set inputs first mid jobs done ws → WroteAll tells out n refused set inputs first.faults mid now between new r)
          → IsAlike r s → WroteAll tells out t refused set inputs first.faults before now old new s
      all_more t n num [] [] can ran now name between new r s put named more alike = absurd can.ready
      all_more t n num [] (i ∷ inputs) can ran now name between new r s put named more alike = absurd can.ready
      all_more t n num (c ∷ set) [] can ran now name between new r s put named more alike = absurd can.ready
      all_more t n num (c ∷ set) (i ∷ inputs) can ran now name between new r s put named more alike =
          let one : RanOn tells out t c (refused t) i before mid (Ok end) = ran c (refused t) i can.ready.1 in
          let others : tells → OthersStayOf (file_names out c) before.files mid.files = first_others tells out t c (refused t) before mid i (Ok end) one in
          let behind : CanRun tells out n set first mid inputs = can_behind tells out refused t (c ∷ set) c set (i ∷ inputs) i inputs refl refl first before can.can mid end later one n num in
          let rest : WroteAll tells out n refused set inputs first.faults mid now between new r =
          more set inputs (record { can = behind; ready = subst (λ (k : ℕ). AreReady jobs done refused k set inputs ws) (sym num) can.ready.2 }) in
          record {
            lines = by r s rest.lines alike;
            others = λ x. others_both out c set before.files mid.files now.files (others x) (rest.others x);
            unread = λ x. (
              λ none. same_then (file_names out c) before.files mid.files now.files
                  (all_stay (file_names out c) before.files mid.files (first_stays tells out t c (refused t) before mid i (Ok end) one none x))
                  (stay (run_files out set) (file_names out c) mid.files now.files (rest.others x) (apart_from out c set can.can.apart.0)),
              unread_then out set inputs before.files mid.files now.files (unread_apart out c set inputs before.files mid.files (others x) can.can.apart.0) (rest.unread x),
            );
          }
        where
          line : Line
          line = record { name = c.name; end = end_view end }

          same : record { name = name; end = end_view end } ≡ line
          same = ap (λ m. let l : Line = record { name = m; end = end_view end } in l) (named ∙ can.ready.0)

          by : (r s : Result (Unit {0}) NoMemory) → WroteLines tells out n refused set inputs first.faults mid now between new r → IsAlike r s
              → WroteLines tells out t refused (c ∷ set) (i ∷ inputs) first.faults before now old new s
          by (Err e) s may alike = lines_none t (c ∷ set) (i ∷ inputs) before now new s (err_too e s alike)
              (failed_behind tells out refused t (c ∷ set) c set (i ∷ inputs) i inputs refl refl first before can.can mid end later (ran c (refused t) i can.ready.1) n now.files num may)
          by (Ok tt) s (told, is, numbers, all) alike = subst (WroteLines tells out t refused (c ∷ set) (i ∷ inputs) first.faults before now old new) (sym (ok_too s alike)) (
            line ∷ told,
            is ∙ ap (λ l. l ++ told) put ∙ append_assoc old (record { name = name; end = end_view end } ∷ []) told ∙ ap (λ l. old ++ l ∷ told) same,
            numbers_first t c i line told set inputs (first_read tells out t c (refused t) before mid i end (ran c (refused t) i can.ready.1)) (subst (λ (k : ℕ). numbers_read k told ≡ numbers_in (jobs_of k set inputs)) num numbers),
            ran_all tells out refused t (c ∷ set) c set (i ∷ inputs) i inputs refl refl first before can.can mid end later (ran c (refused t) i can.ready.1) n now told num all,
          )
