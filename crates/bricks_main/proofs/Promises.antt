-- The promises of a run, from what its parts did.
use Rattle.std.proofs.Common.{◌≡◌, ◌≢◌, ◌⊎◌, inl, inr, ℕ, zero, suc, ◌+◌, ◌*◌, ◌≤◌, ◌<◌, Bool, true, false, ◌&&◌, cond, List, [], ◌∷◌, ◌++◌, length, refl, sym, ◌∙◌, ap, subst, arith, true≢false}
use Rattle.std.specs.Prelude.{Option, Some, None, Result, Ok, Err, IsSomeAnd, IsTrue, slice_get, flat_map}
use Rattle.std.specs.List.{AllByRecursion, list_all}
use Rattle.brick_spec.specs.Capture.{Contents}
use Rattle.brick_spec.specs.CaptureFault.{CaptureFault}
use Rattle.brick_spec.specs.Cause.{Rose, chains_account, reading_account, writing_account}
use Rattle.brick_spec.specs.Files.{Files, FaultCounts, AllStay}
use Rattle.brick_spec.specs.Texts.{OthersStayOf, SomeRose}
use Rattle.chain_spec.specs.ChainFault.{ChainFault}
use Rattle.chain_spec.specs.ChainSet.{Chain, file_names, run_files}
use Rattle.chain_spec.specs.ChainWalk.{read_chains}
use Rattle.pcap_io.proofs.Captures.{readable_unique}
use Rattle.tenant_spec.specs.Tenant.{tally_of}
use Rattle.run_spec.specs.Report.{TenantEnd, Done, TooLong, BadCapture, ReadFault, WriteFault, Line, line_text, Outcome, Usage, ChainsRefused, StoreFault, NoMemory, Checked, Reported, end_is_done, is_done, outcome_text, status_of, AllDone, lines_of}
use Rattle.run_spec.specs.Seen.{Held, Seen, CountRose, NoneRose, Says, Refuses, IsRefused, IsTenant, Captured, IsTooLong, IsBad, IsUnreadable}
use Rattle.run_spec.specs.Subject.{tenant_subject, HasWritten, NoneTouched, EndPromises}
use Rattle.run_spec.specs.Told.{Told, Shown, ChainFilePromise, StoreFaultPromise, ReadingPromises}
use Rattle.run_spec.specs.Isolation.{Refusals, AreLinesFrom, IsReportOf, MayHaveWritten, MayFrom, AllMayHaveWritten, IsTrueOf, AllCaptured, done_lines, HasLines, ReportPromise, OutputPromise, CapturePromise, CompletenessPromise, SetPromises}
use Rattle.run_spec.proofs.Alone.{unique}
use Rattle.run_spec.proofs.DoneLines.{lines_are_done}
use Rattle.run_spec.proofs.Partial.{end_may}
use Rattle.tenant_files.proofs.Tenants.{all_none, some_both, captured_long, captured_bad, same_contents}

-- what the parts of a run did
pub record Ran (tells shows : Type 0) (chains out : List ℕ) (refused : Refusals) (before now : Seen) (outcome : Outcome) (status : ℕ) : Type 0 where
  pub is_true : IsTrueOf tells chains out refused before.store now.store outcome
  pub told : Told outcome status
  pub sink : status ≡ 5 → Rose before.sink.faults now.sink.faults
  pub shown : shows → Shown outcome before.sink now.sink status
  pub counts : (account : ℕ) (name : List ℕ) → 32 < account → now.store.faults account name ≡ before.store.faults account name
  pub tenants : tells → (set : List Chain) → Says chains out before.store.files set → (account : ℕ) (name : List ℕ) → 2 * length set < account → now.store.faults account name ≡ before.store.faults account name

-- STATUSES

abbrev pub StatusIs : Outcome → ℕ → Type 0
StatusIs Usage s = (s ≡ 2) ⊎ (s ≡ 6)
StatusIs (ChainsRefused f) s = (s ≡ 3) ⊎ (s ≡ 6)
StatusIs StoreFault s = (s ≡ 4) ⊎ (s ≡ 6)
StatusIs NoMemory s = s ≡ 6
StatusIs (Checked names) s = (s ≡ 0) ⊎ (s ≡ 5) ⊎ (s ≡ 6)
StatusIs (Reported lines) s = (s ≡ status_of (Reported lines)) ⊎ (s ≡ 5) ⊎ (s ≡ 6)

pub status_is : (o : Outcome) (s : ℕ) → Told o s → StatusIs o s
status_is Usage s (inl e) = inl e
status_is Usage s (inr (inl h)) = let low : 2 ≤ 1 = h.1 in absurd (omega arith)
status_is Usage s (inr (inr e)) = inr e
status_is (ChainsRefused f) s (inl e) = inl e
status_is (ChainsRefused f) s (inr (inl h)) = let low : 3 ≤ 1 = h.1 in absurd (omega arith)
status_is (ChainsRefused f) s (inr (inr e)) = inr e
status_is StoreFault s (inl e) = inl e
status_is StoreFault s (inr (inl h)) = let low : 4 ≤ 1 = h.1 in absurd (omega arith)
status_is StoreFault s (inr (inr e)) = inr e
status_is NoMemory s (inl e) = e
status_is NoMemory s (inr (inl h)) = let low : 6 ≤ 1 = h.1 in absurd (omega arith)
status_is NoMemory s (inr (inr e)) = e
status_is (Checked names) s (inl e) = inl e
status_is (Checked names) s (inr (inl h)) = inr (inl h.0)
status_is (Checked names) s (inr (inr e)) = inr (inr e)
status_is (Reported lines) s (inl e) = inl e
status_is (Reported lines) s (inr (inl h)) = inr (inl h.0)
status_is (Reported lines) s (inr (inr e)) = inr (inr e)

pub report_status : (lines : List Line) → status_of (Reported lines) ≤ 1
report_status lines = by (list_all is_done lines)
  where
    by : (b : Bool) → (cond b 0 1) ≤ 1
    by true = omega arith
    by false = omega arith

-- the tenants were to be run
abbrev pub IsRun : Outcome → Type 0
IsRun Usage = Unit {0}
IsRun (ChainsRefused f) = Unit {0}
IsRun StoreFault = Unit {0}
IsRun NoMemory = Unit {0}
IsRun (Checked names) = ⊥
IsRun (Reported lines) = Unit {0}

pub is_run : (tells : Type 0) (chains out : List ℕ) (refused : Refusals) (before now : Held) (o : Outcome) → IsTrueOf tells chains out refused before now o → IsRun o
is_run tells chains out refused before now Usage h = tt
is_run tells chains out refused before now (ChainsRefused f) h = tt
is_run tells chains out refused before now StoreFault h = tt
is_run tells chains out refused before now NoMemory h = tt
is_run tells chains out refused before now (Checked names) h = h
is_run tells chains out refused before now (Reported lines) h = tt

-- under status 0 or 1 the outcome is a report
low_status : (o : Outcome) (s : ℕ) → IsRun o → StatusIs o s → s ≤ 1 → (lines : List Line) × (o ≡ Reported lines) × (s ≡ status_of (Reported lines))
low_status Usage s run (inl is) low = absurd (omega arith)
low_status Usage s run (inr is) low = absurd (omega arith)
low_status (ChainsRefused f) s run (inl is) low = absurd (omega arith)
low_status (ChainsRefused f) s run (inr is) low = absurd (omega arith)
low_status StoreFault s run (inl is) low = absurd (omega arith)
low_status StoreFault s run (inr is) low = absurd (omega arith)
low_status NoMemory s run is low = absurd (omega arith)
low_status (Checked names) s run is low = absurd run
low_status (Reported lines) s run (inl is) low = (lines, refl, is)
low_status (Reported lines) s run (inr (inl is)) low = absurd (omega arith)
low_status (Reported lines) s run (inr (inr is)) low = absurd (omega arith)

-- and under status 5
five_status : (o : Outcome) (s : ℕ) → IsRun o → StatusIs o s → s ≡ 5 → (lines : List Line) × (o ≡ Reported lines)
five_status Usage s run (inl is) e = absurd (omega arith)
five_status Usage s run (inr is) e = absurd (omega arith)
five_status (ChainsRefused f) s run (inl is) e = absurd (omega arith)
five_status (ChainsRefused f) s run (inr is) e = absurd (omega arith)
five_status StoreFault s run (inl is) e = absurd (omega arith)
five_status StoreFault s run (inr is) e = absurd (omega arith)
five_status NoMemory s run is e = absurd (omega arith)
five_status (Checked names) s run is e = absurd run
five_status (Reported lines) s run is e = (lines, refl)

-- under status 3 the chain file is refused
pub three_status : (o : Outcome) (s : ℕ) → StatusIs o s → s ≡ 3 → (f : ChainFault) × (o ≡ ChainsRefused f)
three_status Usage s (inl is) e = absurd (omega arith)
three_status Usage s (inr is) e = absurd (omega arith)
three_status (ChainsRefused f) s is e = (f, refl)
three_status StoreFault s (inl is) e = absurd (omega arith)
three_status StoreFault s (inr is) e = absurd (omega arith)
three_status NoMemory s is e = absurd (omega arith)
three_status (Checked names) s (inl is) e = absurd (omega arith)
three_status (Checked names) s (inr (inl is)) e = absurd (omega arith)
three_status (Checked names) s (inr (inr is)) e = absurd (omega arith)
three_status (Reported lines) s (inl is) e = absurd (omega (arith, report_status lines, is, e))
three_status (Reported lines) s (inr (inl is)) e = absurd (omega arith)
three_status (Reported lines) s (inr (inr is)) e = absurd (omega arith)

zero_done : (lines : List Line) → status_of (Reported lines) ≡ 0 → AllDone lines
zero_done lines e = by (list_all is_done lines) e
  where
    by : (b : Bool) → ◌≡◌ {A = ℕ} (cond b 0 1) 0 → IsTrue b
    by true e = refl
    by false e = absurd (omega arith)

one_other : (lines : List Line) → status_of (Reported lines) ≡ 1 → ¬ (AllDone lines)
one_other lines e done = by (list_all is_done lines) e done
  where
    by : (b : Bool) → ◌≡◌ {A = ℕ} (cond b 0 1) 1 → IsTrue b → ⊥
    by true e done = omega arith
    by false e done = cc

-- WHAT CANNOT BOTH BE

pub says_refuses : (chains out : List ℕ) (files : Files) (set : List Chain) (f : ChainFault) → Says chains out files set → Refuses chains out files f → ⊥
says_refuses chains out files set f says refused =
    some_both (files chains) (λ bytes. read_chains chains out bytes ≡ Ok set) (λ bytes. read_chains chains out bytes ≡ Err f) (λ bytes is none. clash (sym is ∙ none)) says refused
  where
    clash : ◌≡◌ {A = Result (List Chain) ChainFault} (Ok set) (Err f) → ⊥
    clash e = cc

pub says_refused : (chains out : List ℕ) (files : Files) (set : List Chain) → Says chains out files set → IsRefused chains out files → ⊥
says_refused chains out files set says refused = says_refuses chains out files set refused.0 says refused.1

pub same_set : (chains out : List ℕ) (files : Files) (a b : List Chain) → Says chains out files a → Says chains out files b → a ≡ b
same_set chains out files a b s t = some_says (files chains) s t
  where
    one : ◌≡◌ {A = Result (List Chain) ChainFault} (Ok a) (Ok b) → a ≡ b
    one e = cc

    some_says : (o : Option (List ℕ)) → IsSomeAnd o (λ bytes. read_chains chains out bytes ≡ Ok a) → IsSomeAnd o (λ bytes. read_chains chains out bytes ≡ Ok b) → a ≡ b
    some_says None h k = absurd h
    some_says (Some bytes) h k = one (sym h ∙ k)

pub same_refusal : (chains out : List ℕ) (files : Files) (f g : ChainFault) → Refuses chains out files f → Refuses chains out files g → f ≡ g
same_refusal chains out files f g s t = some_refuses (files chains) s t
  where
    one : ◌≡◌ {A = Result (List Chain) ChainFault} (Err f) (Err g) → f ≡ g
    one e = cc

    some_refuses : (o : Option (List ℕ)) → IsSomeAnd o (λ bytes. read_chains chains out bytes ≡ Err f) → IsSomeAnd o (λ bytes. read_chains chains out bytes ≡ Err g) → f ≡ g
    some_refuses None h k = absurd h
    some_refuses (Some bytes) h k = one (sym h ∙ k)

-- LINES

and_parts : (b c : Bool) → (b && c) ≡ true → (b ≡ true) × (c ≡ true)
and_parts true c e = (refl, e)
and_parts false c e = absurd (true≢false (sym e))

-- where all lines are done each is
done_at : (lines : List Line) (k : ℕ) (line : Line) → slice_get lines k ≡ Some line → AllDone lines → is_done line ≡ true
done_at [] k line at done = cc
done_at (l ∷ ls) zero line at done = let same : l ≡ line = cc in subst (λ (x : Line). is_done x ≡ true) same (and_parts (is_done l) (list_all is_done ls) done).0
done_at (l ∷ ls) (suc k) line at done = done_at ls k line at (and_parts (is_done l) (list_all is_done ls) done).1

-- where a line is not done the status is 1
other_status : (lines : List Line) (k : ℕ) (line : Line) → slice_get lines k ≡ Some line → is_done line ≡ false → status_of (Reported lines) ≡ 1
other_status lines k line at other = by (list_all is_done lines) refl
  where
    by : (b : Bool) → list_all is_done lines ≡ b → ◌≡◌ {A = ℕ} (cond b 0 1) 1
    by true e = absurd (true≢false (sym (done_at lines k line at e) ∙ other))
    by false e = refl

-- the line of a tenant
record LineOf (tells : Type 0) (out : List ℕ) (refused : Refusals) (before now : Held) (n : ℕ) (chain : Chain) (lines : List Line) (k : ℕ) : Type 0 where
  line : Line
  at : slice_get lines k ≡ Some line
  promises : EndPromises tells (tenant_subject out n chain (refused n)) before now line.end

line_at : (tells : Type 0) (out : List ℕ) (refused : Refusals) (before now : Held) (t : ℕ) (set : List Chain) (lines : List Line) (k n : ℕ) (chain : Chain) → AreLinesFrom tells out refused before now t set lines
    → IsTenant set k chain → n ≡ t + k → LineOf tells out refused before now n chain lines k
line_at tells out refused before now t [] lines k n chain are at is = cc
line_at tells out refused before now t (c ∷ set) [] k n chain are at is = absurd are
line_at tells out refused before now t (c ∷ set) (l ∷ ls) zero n chain are at is =
    let same : c ≡ chain = cc in
    let num : t ≡ n = omega arith in
    record {
      line = l;
      at = refl;
      promises = subst (λ (m : ℕ). EndPromises tells (tenant_subject out m chain (refused m)) before now l.end) num
          (subst (λ (x : Chain). EndPromises tells (tenant_subject out t x (refused t)) before now l.end) same are.1);
    }
line_at tells out refused before now t (c ∷ set) (l ∷ ls) (suc k) n chain are at is =
    let r : LineOf tells out refused before now n chain ls k = line_at tells out refused before now (suc t) set ls k n chain are.2 at (omega arith) in
    record { line = r.line; at = r.at; promises = r.promises }

-- the report of the chains that the chain file says
lines_are : (tells : Type 0) (chains out : List ℕ) (refused : Refusals) (before now : Held) (lines : List Line) (set : List Chain) → tells → Says chains out before.files set → IsReportOf tells chains out refused before now lines
    → AreLinesFrom tells out refused before now 0 set lines
lines_are tells chains out refused before now lines set t says r =
    subst (λ (x : List Chain). AreLinesFrom tells out refused before now 0 x lines) (same_set chains out before.files r.set set (r.says t) says) r.tenants

report_of : (tells : Type 0) (chains out : List ℕ) (refused : Refusals) (before now : Held) (o : Outcome) (lines : List Line) → o ≡ Reported lines → IsTrueOf tells chains out refused before now o → IsReportOf tells chains out refused before now lines
report_of tells chains out refused before now o lines e h = let P : Outcome → Type 0 = IsTrueOf tells chains out refused before now in subst P e h

end_done : (end : TenantEnd) → (end ≡ TooLong) ⊎ (end ≡ ReadFault) → end_is_done end ≡ false
end_done end (inl e) = ap end_is_done e
end_done end (inr e) = ap end_is_done e

bad_done : (end : TenantEnd) (f : CaptureFault) → (end ≡ BadCapture f) ⊎ (end ≡ ReadFault) → end_is_done end ≡ false
bad_done end f (inl e) = ap end_is_done e
bad_done end f (inr e) = ap end_is_done e

-- A CAPTURE THAT IS NOT READ

unread_line : (tells : Type 0) (out : List ℕ) (refused : Refusals) (before now : Held) (n : ℕ) (chain : Chain) (lines : List Line) (k : ℕ) → tells → IsUnreadable before.files chain.capture
    → (l : LineOf tells out refused before now n chain lines k) → is_done l.line ≡ false
unread_line tells out refused before now n chain lines k t (inl long) l = end_done l.line.end ((l.promises.too_long t).comes long)
unread_line tells out refused before now n chain lines k t (inr (f, bad)) l = bad_done l.line.end f ((l.promises.bad_capture t).comes f bad)

unread_files : (tells : Type 0) (out : List ℕ) (refused : Refusals) (before now : Held) (n : ℕ) (chain : Chain) (lines : List Line) (k : ℕ) → tells → IsUnreadable before.files chain.capture
    → (l : LineOf tells out refused before now n chain lines k) → NoneTouched (file_names out chain) before.files now.files
unread_files tells out refused before now n chain lines k t (inl long) l = by ((l.promises.too_long t).comes long)
  where
    by : (l.line.end ≡ TooLong) ⊎ (l.line.end ≡ ReadFault) → NoneTouched (file_names out chain) before.files now.files
    by (inl e) = (l.promises.files t).too_long e
    by (inr e) = (l.promises.files t).read_fault e
unread_files tells out refused before now n chain lines k t (inr (f, bad)) l = by ((l.promises.bad_capture t).comes f bad)
  where
    by : (l.line.end ≡ BadCapture f) ⊎ (l.line.end ≡ ReadFault) → NoneTouched (file_names out chain) before.files now.files
    by (inl e) = (l.promises.files t).bad_capture f e
    by (inr e) = (l.promises.files t).read_fault e

captured_unread : (before : Held) (chain : Chain) → IsUnreadable before.files chain.capture → (c : Contents) → Captured before.files chain.capture c → ⊥
captured_unread before chain (inl long) c captured = captured_long before.files chain c captured long
captured_unread before chain (inr (f, bad)) c captured = captured_bad before.files chain c f captured bad

-- FILES

may_at : (out : List ℕ) (refused : Refusals) (before now : Files) (t : ℕ) (set : List Chain) (k n : ℕ) (chain : Chain) → MayFrom out refused before now t set → IsTenant set k chain → n ≡ t + k
    → MayHaveWritten (tenant_subject out n chain (refused n)) before now
may_at out refused before now t [] k n chain may at is = cc
may_at out refused before now t (c ∷ set) zero n chain may at is =
    let same : c ≡ chain = cc in
    let num : t ≡ n = omega arith in
    subst (λ (m : ℕ). MayHaveWritten (tenant_subject out m chain (refused m)) before now) num (subst (λ (x : Chain). MayHaveWritten (tenant_subject out t x (refused t)) before now) same may.0)
may_at out refused before now t (c ∷ set) (suc k) n chain may at is = may_at out refused before now (suc t) set k n chain may.1 at (omega arith)

lines_may : (tells : Type 0) (out : List ℕ) (refused : Refusals) (before now : Held) (t : ℕ) (set : List Chain) (lines : List Line) → tells → AreLinesFrom tells out refused before now t set lines
    → MayFrom out refused before.files now.files t set
lines_may tells out refused before now t [] lines x are = tt
lines_may tells out refused before now t (c ∷ set) [] x are = absurd are
lines_may tells out refused before now t (c ∷ set) (l ∷ ls) x are =
    (end_may tells x (tenant_subject out t c (refused t)) before now l.end are.1, lines_may tells out refused before now (suc t) set ls x are.2)

may_of : (tells : Type 0) (chains out : List ℕ) (refused : Refusals) (before now : Held) (o : Outcome) → tells → IsTrueOf tells chains out refused before now o → AllMayHaveWritten chains out refused before.files now.files
may_of tells chains out refused before now Usage t h = absurd h
may_of tells chains out refused before now (ChainsRefused f) t h = inl (h t).1
may_of tells chains out refused before now (Checked names) t h = absurd h
may_of tells chains out refused before now StoreFault t h = inl (h.1 t)
may_of tells chains out refused before now NoMemory t h = h t
may_of tells chains out refused before now (Reported lines) t h = inr (h.set, h.says t, lines_may tells out refused before now 0 h.set lines t h.tenants, h.others t)

untouched_of : (chains out : List ℕ) (refused : Refusals) (old new : Files) → AllMayHaveWritten chains out refused old new → (name : List ℕ)
    → ((set : List Chain) → Says chains out old set → AllByRecursion (λ file. name ≢ file) (run_files out set)) → new name ≡ old name
untouched_of chains out refused old new (inl stay) name none = stay name
untouched_of chains out refused old new (inr h) name none = h.3 name (none h.0 h.1)

-- CHAIN FILE

chain_refused : (tells : Type 0) (chains out : List ℕ) (refused : Refusals) (before now : Held) (o : Outcome) (s : ℕ) → tells → StatusIs o s → IsTrueOf tells chains out refused before now o → s ≡ 3 → IsRefused chains out before.files
chain_refused tells chains out refused before now Usage s t is h e = absurd h
chain_refused tells chains out refused before now (ChainsRefused f) s t is h e = (f, (h t).0)
chain_refused tells chains out refused before now (Checked names) s t is h e = absurd h
chain_refused tells chains out refused before now StoreFault s t (inl is) h e = absurd (omega arith)
chain_refused tells chains out refused before now StoreFault s t (inr is) h e = absurd (omega arith)
chain_refused tells chains out refused before now NoMemory s t is h e = absurd (omega arith)
chain_refused tells chains out refused before now (Reported lines) s t (inl is) h e = absurd (omega (arith, report_status lines, is, e))
chain_refused tells chains out refused before now (Reported lines) s t (inr (inl is)) h e = absurd (omega arith)
chain_refused tells chains out refused before now (Reported lines) s t (inr (inr is)) h e = absurd (omega arith)

chain_comes : (tells : Type 0) (chains out : List ℕ) (refused : Refusals) (before now : Held) (o : Outcome) (s : ℕ) → tells → StatusIs o s → IsTrueOf tells chains out refused before now o → IsRefused chains out before.files
    → (s ≡ 3) ⊎ ((s ≡ 4) × CountRose chains_account chains before now) ⊎ (s ≡ 6)
chain_comes tells chains out refused before now Usage s t is h refusal = absurd h
chain_comes tells chains out refused before now (ChainsRefused f) s t (inl is) h refusal = inl is
chain_comes tells chains out refused before now (ChainsRefused f) s t (inr is) h refusal = inr (inr is)
chain_comes tells chains out refused before now (Checked names) s t is h refusal = absurd h
chain_comes tells chains out refused before now StoreFault s t (inl is) h refusal = inr (inl (is, h.0))
chain_comes tells chains out refused before now StoreFault s t (inr is) h refusal = inr (inr is)
chain_comes tells chains out refused before now NoMemory s t is h refusal = inr (inr is)
chain_comes tells chains out refused before now (Reported lines) s t is h refusal = absurd (says_refused chains out before.files h.set (h.says t) refusal)

may_refused : (chains out : List ℕ) (refused : Refusals) (old new : Files) → IsRefused chains out old → AllMayHaveWritten chains out refused old new → AllStay old new
may_refused chains out refused old new refusal (inl stay) = stay
may_refused chains out refused old new refusal (inr h) = absurd (says_refused chains out old h.0 h.1 refusal)

-- the fault that is told is the first one
refusal_is : (tells : Type 0) (chains out : List ℕ) (refused : Refusals) (before now : Held) (o : Outcome) (f : ChainFault) → o ≡ ChainsRefused f → tells → IsTrueOf tells chains out refused before now o → Refuses chains out before.files f
refusal_is tells chains out refused before now o f e t h = let P : Outcome → Type 0 = IsTrueOf tells chains out refused before now in (subst P e h t).0

pub refusal_shown : (chains out : List ℕ) (before now : Seen) (o : Outcome) (s : ℕ) → StatusIs o s → ((f : ChainFault) → o ≡ ChainsRefused f → Refuses chains out before.store.files f)
    → Shown o before.sink now.sink s → s ≡ 3 → (f : ChainFault) → Refuses chains out before.store.files f → Shown (ChainsRefused f) before.sink now.sink s
refusal_shown chains out before now o s is told shown e f refusal =
    let three = three_status o s is e in
    let same = same_refusal chains out before.store.files three.0 f (told three.0 three.1) refusal in
    subst (λ (x : Outcome). Shown x before.sink now.sink s) (three.1 ∙ ap ChainsRefused same) shown

-- FAULTS

store_fault_of : (tells : Type 0) (chains out : List ℕ) (refused : Refusals) (before now : Held) (o : Outcome) (s : ℕ) → StatusIs o s → IsTrueOf tells chains out refused before now o → s ≡ 4
    → CountRose chains_account chains before now × (tells → AllStay before.files now.files)
store_fault_of tells chains out refused before now Usage s is h e = absurd h
store_fault_of tells chains out refused before now (ChainsRefused f) s (inl is) h e = absurd (omega arith)
store_fault_of tells chains out refused before now (ChainsRefused f) s (inr is) h e = absurd (omega arith)
store_fault_of tells chains out refused before now StoreFault s is h e = h
store_fault_of tells chains out refused before now NoMemory s is h e = absurd (omega arith)
store_fault_of tells chains out refused before now (Checked names) s is h e = absurd h
store_fault_of tells chains out refused before now (Reported lines) s (inl is) h e = absurd (omega (arith, report_status lines, is, e))
store_fault_of tells chains out refused before now (Reported lines) s (inr (inl is)) h e = absurd (omega arith)
store_fault_of tells chains out refused before now (Reported lines) s (inr (inr is)) h e = absurd (omega arith)

-- the words were a line
known_status : (tells : Type 0) (chains out : List ℕ) (refused : Refusals) (before now : Held) (o : Outcome) (s : ℕ) → StatusIs o s → IsTrueOf tells chains out refused before now o → s ≢ 2
known_status tells chains out refused before now Usage s is h e = h
known_status tells chains out refused before now (ChainsRefused f) s (inl is) h e = omega arith
known_status tells chains out refused before now (ChainsRefused f) s (inr is) h e = omega arith
known_status tells chains out refused before now StoreFault s (inl is) h e = omega arith
known_status tells chains out refused before now StoreFault s (inr is) h e = omega arith
known_status tells chains out refused before now NoMemory s is h e = omega arith
known_status tells chains out refused before now (Checked names) s is h e = h
known_status tells chains out refused before now (Reported lines) s (inl is) h e = omega (arith, report_status lines, is)
known_status tells chains out refused before now (Reported lines) s (inr (inl is)) h e = omega arith
known_status tells chains out refused before now (Reported lines) s (inr (inr is)) h e = omega arith

-- CAPTURE

capture_comes : (tells : Type 0) (chains out : List ℕ) (refused : Refusals) (before now : Seen) (o : Outcome) (s : ℕ) → tells → StatusIs o s → IsTrueOf tells chains out refused before.store now.store o
    → (s ≡ 5 → Rose before.sink.faults now.sink.faults) → (set : List Chain) (t : ℕ) (chain : Chain) → Says chains out before.store.files set → IsTenant set t chain → IsUnreadable before.store.files chain.capture
    → (s ≡ 1) ⊎ ((s ≡ 5) × Rose before.sink.faults now.sink.faults) ⊎ ((s ≡ 4) × CountRose chains_account chains before.store now.store) ⊎ (s ≡ 6)
capture_comes tells chains out refused before now Usage s x is h sink set t chain says at bad = absurd h
capture_comes tells chains out refused before now (ChainsRefused f) s x is h sink set t chain says at bad = absurd (says_refuses chains out before.store.files set f says (h x).0)
capture_comes tells chains out refused before now (Checked names) s x is h sink set t chain says at bad = absurd h
capture_comes tells chains out refused before now StoreFault s x (inl is) h sink set t chain says at bad = inr (inr (inl (is, h.0)))
capture_comes tells chains out refused before now StoreFault s x (inr is) h sink set t chain says at bad = inr (inr (inr is))
capture_comes tells chains out refused before now NoMemory s x is h sink set t chain says at bad = inr (inr (inr is))
capture_comes tells chains out refused before now (Reported lines) s x (inl is) h sink set t chain says at bad =
    let l : LineOf tells out refused before.store now.store t chain lines t =
    line_at tells out refused before.store now.store 0 set lines t t chain (lines_are tells chains out refused before.store now.store lines set x says h) at (omega arith) in
    inl (is ∙ other_status lines t l.line l.at (unread_line tells out refused before.store now.store t chain lines t x bad l))
capture_comes tells chains out refused before now (Reported lines) s x (inr (inl is)) h sink set t chain says at bad = inr (inl (is, sink is))
capture_comes tells chains out refused before now (Reported lines) s x (inr (inr is)) h sink set t chain says at bad = inr (inr (inr is))

capture_files : (tells : Type 0) (chains out : List ℕ) (refused : Refusals) (before now : Held) (o : Outcome) → tells → IsTrueOf tells chains out refused before now o → (set : List Chain) (t : ℕ) (chain : Chain)
    → Says chains out before.files set → IsTenant set t chain → IsUnreadable before.files chain.capture → NoneTouched (file_names out chain) before.files now.files
capture_files tells chains out refused before now o x h set t chain says at bad = by (may_of tells chains out refused before now o x h)
  where
    one : MayHaveWritten (tenant_subject out t chain (refused t)) before.files now.files → NoneTouched (file_names out chain) before.files now.files
    one (inl none) = none
    one (inr w) = absurd (captured_unread before chain bad w.0 w.1)

    by : AllMayHaveWritten chains out refused before.files now.files → NoneTouched (file_names out chain) before.files now.files
    by (inl stay) = all_none (file_names out chain) before.files now.files stay
    by (inr w) =
        let at_w : IsTenant w.0 t chain = subst (λ (y : List Chain). IsTenant y t chain) (same_set chains out before.files set w.0 says w.1) at in
        one (may_at out refused before.files now.files 0 w.0 t t chain w.2 at_w (omega arith))

-- OUTPUT

all_captured : (tells : Type 0) (out : List ℕ) (refused : Refusals) (before now : Held) (t : ℕ) (set : List Chain) (lines : List Line) → tells → AreLinesFrom tells out refused before now t set lines → AllDone lines
    → (cs : List Contents) × AllCaptured before.files set cs
all_captured tells out refused before now t [] lines x are done = ([], tt)
all_captured tells out refused before now t (c ∷ set) [] x are done = absurd are
all_captured tells out refused before now t (c ∷ set) (l ∷ ls) x are done =
    let d : (is_done l ≡ true) × (list_all is_done ls ≡ true) = and_parts (is_done l) (list_all is_done ls) done in
    let m : _ = (are.1.done x).means d.0 in
    let r : _ = all_captured tells out refused before now (suc t) set ls x are.2 d.1 in
    (m.0 ∷ r.0, (m.1, r.1))

output_good : (tells : Type 0) (chains out : List ℕ) (refused : Refusals) (before now : Held) (o : Outcome) (s : ℕ) → tells → StatusIs o s → IsTrueOf tells chains out refused before now o → s ≡ 0
    → (set : List Chain) × (cs : List Contents) × Says chains out before.files set × AllCaptured before.files set cs
output_good tells chains out refused before now o s x is h e =
    let low = low_status o s (is_run tells chains out refused before now o h) is (omega arith) in
    let r : IsReportOf tells chains out refused before now low.0 = report_of tells chains out refused before now o low.0 low.1 h in
    let c : _ = all_captured tells out refused before now 0 r.set low.0 x r.tenants (zero_done low.0 (sym low.2 ∙ e)) in
    (r.set, c.0, r.says x, c.1)

-- with lines, the outcome is a report; under 0 all are done
pub has_lines : (o : Outcome) (s : ℕ) → IsRun o → StatusIs o s → HasLines s → (lines : List Line) × (o ≡ Reported lines) × (s ≡ 0 → AllDone lines)
has_lines o s run is (inl e) = let low = low_status o s run is (omega arith) in (low.0, low.1, λ z. zero_done low.0 (sym low.2 ∙ z))
has_lines o s run is (inr (inl e)) = let low = low_status o s run is (omega arith) in (low.0, low.1, λ z. absurd (omega arith))
has_lines o s run is (inr (inr e)) = let five = five_status o s run is e in (five.0, five.1, λ z. absurd (omega arith))

-- a line that is done tells that the files are whole
written_of : (tells : Type 0) (out : List ℕ) (refused : Refusals) (before now : Held) (n : ℕ) (chain : Chain) (lines : List Line) (k : ℕ) (c : Contents) → tells → Captured before.files chain.capture c
    → (l : LineOf tells out refused before now n chain lines k) → is_done l.line ≡ true → HasWritten (tenant_subject out n chain (refused n)) c now.files
written_of tells out refused before now n chain lines k c x captured l d =
    let m : _ = (l.promises.done x).means d in
    subst (λ (y : Contents). HasWritten (tenant_subject out n chain (refused n)) y now.files) (same_contents before.files chain m.0 c m.1 captured) m.3

-- a line whose capture is read, and of whose accounts no count rose, is done
comes_done : (tells : Type 0) (out : List ℕ) (refused : Refusals) (before now : Held) (n : ℕ) (chain : Chain) (lines : List Line) (k : ℕ) (c : Contents) → tells → Captured before.files chain.capture c
    → ¬ (CountRose (reading_account n) chain.capture before now) → ¬ (SomeRose (writing_account n) (file_names out chain) before.faults now.faults)
    → (l : LineOf tells out refused before now n chain lines k) → is_done l.line ≡ true
comes_done tells out refused before now n chain lines k c x captured no_read no_write l = by ((l.promises.done x).comes c captured)
  where
    by : (l.line.end ≡ Done (tally_of chain (refused n) c)) ⊎ (l.line.end ≡ ReadFault) ⊎ (l.line.end ≡ WriteFault) → is_done l.line ≡ true
    by (inl e) = ap end_is_done e
    by (inr (inl e)) = absurd (no_read (l.promises.read_fault.cause e))
    by (inr (inr e)) = absurd (no_write (l.promises.write_fault.cause e))

output_files : (tells : Type 0) (chains out : List ℕ) (refused : Refusals) (before now : Held) (o : Outcome) (s : ℕ) → tells → StatusIs o s → IsTrueOf tells chains out refused before now o → HasLines s
    → (set : List Chain) (t : ℕ) (chain : Chain) (c : Contents) → Says chains out before.files set → IsTenant set t chain → Captured before.files chain.capture c
    → (s ≡ 0) ⊎ (¬ (CountRose (reading_account t) chain.capture before now) × ¬ (SomeRose (writing_account t) (file_names out chain) before.faults now.faults))
    → HasWritten (tenant_subject out t chain (refused t)) c now.files
output_files tells chains out refused before now o s x is h has set t chain c says at captured why = by why
  where
    run : IsRun o
    run = is_run tells chains out refused before now o h

    lines : (ls : List Line) × (o ≡ Reported ls) × (s ≡ 0 → AllDone ls)
    lines = has_lines o s run is has

    l : LineOf tells out refused before now t chain lines.0 t
    l = line_at tells out refused before now 0 set lines.0 t t chain (lines_are tells chains out refused before now lines.0 set x says (report_of tells chains out refused before now o lines.0 lines.1 h)) at (omega arith)

    by : (s ≡ 0) ⊎ (¬ (CountRose (reading_account t) chain.capture before now) × ¬ (SomeRose (writing_account t) (file_names out chain) before.faults now.faults))
        → HasWritten (tenant_subject out t chain (refused t)) c now.files
    by (inl z) = written_of tells out refused before now t chain lines.0 t c x captured l (done_at lines.0 t l.line l.at (lines.2 z))
    by (inr w) = written_of tells out refused before now t chain lines.0 t c x captured l (comes_done tells out refused before now t chain lines.0 t c x captured w.0 w.1 l)

-- REPORT

all_done_of : (o : Outcome) (s : ℕ) → IsRun o → StatusIs o s → s ≡ 0 → AllDone (lines_of o)
all_done_of o s run is e = let low = low_status o s run is (omega arith) in subst (λ (x : Outcome). AllDone (lines_of x)) (sym low.1) (zero_done low.0 (sym low.2 ∙ e))

some_other_of : (o : Outcome) (s : ℕ) → IsRun o → StatusIs o s → s ≡ 1 → ¬ (AllDone (lines_of o))
some_other_of o s run is e = let low = low_status o s run is (omega arith) in subst (λ (x : Outcome). ¬ (AllDone (lines_of x))) (sym low.1) (one_other low.0 (sym low.2 ∙ e))

report_done : (tells shows : Type 0) (chains out : List ℕ) (refused : Refusals) (before now : Seen) (o : Outcome) (s : ℕ) → Ran tells shows chains out refused before now o s → tells → shows → s ≡ 0
    → (set : List Chain) (cs : List Contents) → Says chains out before.store.files set → AllCaptured before.store.files set cs → now.sink.bytes ≡ before.sink.bytes ++ flat_map line_text (done_lines refused 0 set cs)
report_done tells shows chains out refused before now o s r x w e set cs says captured =
    let low = low_status o s (is_run tells chains out refused before.store now.store o r.is_true) (status_is o s r.told) (omega arith) in
    let are : AreLinesFrom tells out refused before.store now.store 0 set low.0 =
    lines_are tells chains out refused before.store now.store low.0 set x says (report_of tells chains out refused before.store now.store o low.0 low.1 r.is_true) in
    let same : low.0 ≡ done_lines refused 0 set cs =
    lines_are_done (unique readable_unique) tells x out refused before.store now.store 0 set cs low.0 are (zero_done low.0 (sym low.2 ∙ e)) captured in
    let text : outcome_text o ≡ flat_map line_text (done_lines refused 0 set cs) = ap outcome_text low.1 ∙ ap (λ (ls : List Line). flat_map line_text ls) same in
    let shown : Shown o before.sink now.sink s = r.shown w in
    shown.report (omega arith) ∙ ap (λ l. before.sink.bytes ++ l) text

-- COMPLETENESS

none_of : (account : ℕ) (names : List (List ℕ)) (before now : FaultCounts) → ((a : ℕ) (n : List ℕ) → ¬ (Rose (before a n) (now a n))) → SomeRose account names before now → ⊥
none_of account [] before now none r = r
none_of account (n ∷ ns) before now none (inl r) = none account n r
none_of account (n ∷ ns) before now none (inr r) = none_of account ns before now none r

all_come : (tells : Type 0) (out : List ℕ) (refused : Refusals) (before now : Held) (t : ℕ) (set : List Chain) (lines : List Line) (cs : List Contents) → tells → AreLinesFrom tells out refused before now t set lines
    → AllCaptured before.files set cs → ((a : ℕ) (n : List ℕ) → ¬ (CountRose a n before now)) → list_all is_done lines ≡ true
all_come tells out refused before now t [] [] cs x are captured none = refl
all_come tells out refused before now t [] (l ∷ ls) cs x are captured none = absurd are
all_come tells out refused before now t (c ∷ set) [] cs x are captured none = absurd are
all_come tells out refused before now t (c ∷ set) (l ∷ ls) [] x are captured none = absurd captured
all_come tells out refused before now t (c ∷ set) (l ∷ ls) (k ∷ ks) x are captured none =
    let this : LineOf tells out refused before now t c (l ∷ ls) 0 = record { line = l; at = refl; promises = are.1 } in
    let d : is_done l ≡ true =
    comes_done tells out refused before now t c (l ∷ ls) 0 k x captured.0 (none (reading_account t) c.capture) (none_of (writing_account t) (file_names out c) before.faults now.faults none) this in
    ap (λ b. b && list_all is_done ls) d ∙ all_come tells out refused before now (suc t) set ls ks x are.2 captured.1 none

complete_of : (tells : Type 0) (chains out : List ℕ) (refused : Refusals) (before now : Seen) (o : Outcome) (s : ℕ) → tells → StatusIs o s → IsTrueOf tells chains out refused before.store now.store o
    → (s ≡ 5 → Rose before.sink.faults now.sink.faults) → (set : List Chain) (cs : List Contents) → Says chains out before.store.files set → AllCaptured before.store.files set cs → NoneRose before now → (s ≡ 0) ⊎ (s ≡ 6)
complete_of tells chains out refused before now Usage s x is h sink set cs says captured none = absurd h
complete_of tells chains out refused before now (ChainsRefused f) s x is h sink set cs says captured none = absurd (says_refuses chains out before.store.files set f says (h x).0)
complete_of tells chains out refused before now (Checked names) s x is h sink set cs says captured none = absurd h
complete_of tells chains out refused before now StoreFault s x is h sink set cs says captured none = absurd (none.store chains_account chains h.0)
complete_of tells chains out refused before now NoMemory s x is h sink set cs says captured none = inr is
complete_of tells chains out refused before now (Reported lines) s x (inl is) h sink set cs says captured none =
    let all : list_all is_done lines ≡ true =
    all_come tells out refused before.store now.store 0 set lines cs x (lines_are tells chains out refused before.store now.store lines set x says h) captured none.store in
    inl (is ∙ ap (λ b. let n : ℕ = cond b 0 1 in n) all)
complete_of tells chains out refused before now (Reported lines) s x (inr (inl is)) h sink set cs says captured none = absurd (none.sink (sink is))
complete_of tells chains out refused before now (Reported lines) s x (inr (inr is)) h sink set cs says captured none = inr is

-- ALL PROMISES
pub promises_kept : (tells shows : Type 0) (chains out : List ℕ) (refused : Refusals) (before now : Seen) (o : Outcome) (s : ℕ) → Ran tells shows chains out refused before now o s → SetPromises tells shows chains out refused before now s
promises_kept tells shows chains out refused before now o s r =
    let is : StatusIs o s = status_is o s r.told in
    let run : IsRun o = is_run tells chains out refused before.store now.store o r.is_true in
    record {
      reading = record {
        line = known_status tells chains out refused before.store now.store o s is r.is_true;
        chain_file = λ t. record {
          refused = chain_refused tells chains out refused before.store now.store o s t is r.is_true;
          comes = chain_comes tells chains out refused before.store now.store o s t is r.is_true;
          files = λ refusal. may_refused chains out refused before.store.files now.store.files refusal (may_of tells chains out refused before.store now.store o t r.is_true);
          shown = λ w e f refusal. refusal_shown chains out before now o s is (λ g is_g. refusal_is tells chains out refused before.store now.store o g is_g t r.is_true) (r.shown w) e f refusal;
        };
        store_fault = record {
          cause = λ e. (store_fault_of tells chains out refused before.store now.store o s is r.is_true e).0;
          files = λ t e. (store_fault_of tells chains out refused before.store now.store o s is r.is_true e).1 t;
        };
        sink_fault = record { cause = r.sink };
      };
      report = record {
        outcome = o;
        told = r.told;
        shown = r.shown;
        true_of = r.is_true;
        all_done = all_done_of o s run is;
        some_other = some_other_of o s run is;
        done = report_done tells shows chains out refused before now o s r;
      };
      output = λ t. record {
        good = output_good tells chains out refused before.store now.store o s t is r.is_true;
        files = output_files tells chains out refused before.store now.store o s t is r.is_true;
      };
      capture = λ t. record {
        comes = capture_comes tells chains out refused before now o s t is r.is_true r.sink;
        files = capture_files tells chains out refused before.store now.store o t r.is_true;
      };
      partial_files = λ t. record { at_most = may_of tells chains out refused before.store now.store o t r.is_true };
      untouched = λ t. record { stay = untouched_of chains out refused before.store.files now.store.files (may_of tells chains out refused before.store now.store o t r.is_true) };
      counts = record { stay = r.counts; tenants = r.tenants };
      completeness = λ t. record { succeeds = complete_of tells chains out refused before now o s t is r.is_true r.sink };
    }

-- the outcome that is told is this one
pub outcome_kept : (tells shows : Type 0) (chains out : List ℕ) (refused : Refusals) (before now : Seen) (o : Outcome) (s : ℕ) (r : Ran tells shows chains out refused before now o s)
    → (promises_kept tells shows chains out refused before now o s r).report.outcome ≡ o
unfolding promises_kept
outcome_kept tells shows chains out refused before now o s r = refl

pub usage_status : (s : ℕ) → Told Usage s → (s ≡ 2) ⊎ (s ≡ 6)
usage_status s told = status_is Usage s told
