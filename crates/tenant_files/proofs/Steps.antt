-- Tenants run one after another.
use Rattle.std.proofs.Common.{◌≡◌, ◌⊎◌, inl, inr, ℕ, suc, ◌≤◌, ◌<◌, length, List, [], ◌∷◌, map, Option, IsSomeAnd, refl, sym, ◌∙◌, ap, subst, arith}
use Rattle.std.specs.Prelude.{Result, Ok, Err, OnErr, IsErr}
use Rattle.std.proofs.Common.{◌++◌}
use Rattle.std.specs.List.{AllByRecursion}
use Rattle.std.proofs.Math.Path.{fun_ext}
use Rattle.brick_base.specs.declared.memory.NoMemory.{NoMemory}
use Rattle.brick_spec.specs.Capture.{Contents, IsReadable, longest_capture}
use Rattle.brick_spec.specs.CaptureFault.{Stands}
use Rattle.brick_spec.specs.Cause.{Rose, reading_account, writing_account}
use Rattle.brick_spec.specs.Files.{Files, FaultCounts, AllStay, IsPrefix}
use Rattle.std.proofs.Common.{append-nil, true≢false}
use Rattle.brick_spec.specs.Texts.{Text, Holds, MayHold, Untouched, StopsWithin, WritesTexts, OthersStayOf, SomeRose}
use Rattle.chain_spec.specs.ChainSet.{Chain, file_names}
use Rattle.tenant_spec.specs.Tenant.{texts_of}
use Rattle.run_spec.specs.Isolation.{Refusals}
use Rattle.run_spec.specs.Report.{Line, TenantEnd, Done, TooLong, BadCapture, ReadFault, WriteFault}
use Rattle.run_spec.specs.Seen.{Held, held, CountRose, Captured}
use Rattle.run_spec.specs.Subject.{tenant_subject}
use Rattle.run_spec.specs.Tenants.{NoneFell, TenantRan, TenantsRan, TenantMay, TenantsMay, IsApart, TenantsApart, AllApart}
use Rattle.run_spec.proofs.Set.{same_refl}
use Rattle.run_spec.proofs.Partial.{end_may}
use Rattle.run_report.specs.View.{refusal_view, end_view}
use Rattle.run_report.specs.declared.report.TenantEnd.{TenantEnd as EndInCode}
use Rattle.store_files.proofs.TextLists.{stops_for, some_then}
use Rattle.tenant_files.specs.Inputs.{IsInput, AreInputs}
use Rattle.std.specs.Global.{Vec}
use Rattle.run_report.specs.declared.report.Line.{Line as LineInCode}
use Rattle.tenant_files.specs.Run.{HasEnded, RanOn, CanRun, AllRan}
use Rattle.tenant_files.specs.Written.{WroteEnd, Wrote}
use Rattle.tenant_files.specs.declared.inputs.TenantInput.{TenantInput}
use Rattle.tenant_files.specs.declared.inputs.TenantInput.TheVariants as input
use Rattle.tenant_files.proofs.Captures.{inputs_later}
use Rattle.tenant_files.proofs.Tenants.{TenantLeaves, TenantCause, tenant_kept}

-- ONE TENANT

others_all : (names : List (List ℕ)) (old new : Files) → AllStay old new → OthersStayOf names old new
others_all names old new stay name apart = stay name

-- it was read whole
wrote_leaves : (tells : Type 0) (out : List ℕ) (t : ℕ) (chain : Chain) (refused : List ℕ) (c : Contents) (counts : FaultCounts) (before now : Held) (end : TenantEnd) → ((a : ℕ) (n : List ℕ) → counts a n ≤ before.faults a n)
    → (tells → Captured before.files chain.capture c) → WroteEnd tells out t chain refused c before now end → tells → TenantLeaves t out chain refused (held before.files counts) now end
wrote_leaves tells out t chain refused c counts before now (Done tally) later captured w x = (c, captured x, w.0, (w.1 x).0, (w.1 x).1)
wrote_leaves tells out t chain refused c counts before now WriteFault later captured w x = (
  c,
  captured x,
  stops_for (λ text. CountRose (writing_account t) text.name before now) (λ text. CountRose (writing_account t) text.name (held before.files counts) now)
      (λ text rose. omega (arith, later (writing_account t) text.name)) before.files now.files (texts_of out chain refused c) (w.1 x).0,
  (w.1 x).1,
)
wrote_leaves tells out t chain refused c counts before now TooLong later captured w x = absurd w
wrote_leaves tells out t chain refused c counts before now (BadCapture f) later captured w x = absurd w
wrote_leaves tells out t chain refused c counts before now ReadFault later captured w x = absurd w

wrote_cause : (tells : Type 0) (out : List ℕ) (t : ℕ) (chain : Chain) (refused : List ℕ) (c : Contents) (counts : FaultCounts) (before now : Held) (end : TenantEnd) → ((a : ℕ) (n : List ℕ) → counts a n ≤ before.faults a n)
    → WroteEnd tells out t chain refused c before now end → TenantCause t out chain (held before.files counts) now end
wrote_cause tells out t chain refused c counts before now (Done tally) later w = tt
wrote_cause tells out t chain refused c counts before now WriteFault later w = some_then (writing_account t) (file_names out chain) counts before.faults now.faults later w.0
wrote_cause tells out t chain refused c counts before now TooLong later w = absurd w
wrote_cause tells out t chain refused c counts before now (BadCapture f) later w = absurd w
wrote_cause tells out t chain refused c counts before now ReadFault later w = absurd w

wrote_others : (tells : Type 0) (out : List ℕ) (t : ℕ) (chain : Chain) (refused : List ℕ) (c : Contents) (before now : Held) (end : TenantEnd) → WroteEnd tells out t chain refused c before now end → tells → OthersStayOf (file_names out chain) before.files now.files
wrote_others tells out t chain refused c before now (Done tally) w x = (w.1 x).1
wrote_others tells out t chain refused c before now WriteFault w x = (w.1 x).1
wrote_others tells out t chain refused c before now TooLong w x = absurd w
wrote_others tells out t chain refused c before now (BadCapture f) w x = absurd w
wrote_others tells out t chain refused c before now ReadFault w x = absurd w

-- what is needed of a tenant's part
record Part (tells : Type 0) (out : List ℕ) (counts : FaultCounts) (t : ℕ) (chain : Chain) (refused : List ℕ) (before now : Held) (end : TenantEnd) : Type 0 where
  leaves : tells → TenantLeaves t out chain refused (held before.files counts) now end
  cause : TenantCause t out chain (held before.files counts) now end
  others : tells → OthersStayOf (file_names out chain) before.files now.files

module _ (tells : Type 0) (out : List ℕ) (t : ℕ) (chain : Chain) (refused : List ℕ) (first before now : Held) (later : NoneFell first before) (stays : tells → before.files chain.capture ≡ first.files chain.capture) where
  part_of : (i : TenantInput) (end : EndInCode) → IsInput tells t chain first before.faults i → NoneFell before now → RanOn tells out t chain refused i before now (Ok end) → Part tells out first.faults t chain refused before now (end_view end)
  part_of (input.Whole c) end is more ran = record {
    leaves = wrote_leaves tells out t chain refused c first.faults before now (end_view end) later (λ x. subst (λ (o : Option (List ℕ)). IsSomeAnd o (λ bytes. IsReadable bytes c)) (sym (stays x)) (is x)) ran;
    cause = wrote_cause tells out t chain refused c first.faults before now (end_view end) later ran;
    others = wrote_others tells out t chain refused c before now (end_view end) ran;
  }
  part_of input.TooLong end is more ran = subst (Part tells out first.faults t chain refused before now) (sym ran.0) (record {
    leaves = λ x. (subst (λ (o : Option (List ℕ)). IsSomeAnd o (λ bytes. longest_capture < length bytes)) (sym (stays x)) (is x), ran.1 x);
    cause = tt;
    others = λ x. others_all (file_names out chain) before.files now.files (ran.1 x);
  })
  part_of (input.Bad refusal) end is more ran = subst (Part tells out first.faults t chain refused before now) (sym ran.0) (record {
    leaves = λ x. (subst (λ (o : Option (List ℕ)). IsSomeAnd o (λ bytes. (length bytes ≤ longest_capture) × Stands bytes (refusal_view refusal))) (sym (stays x)) (is x), ran.1 x);
    cause = tt;
    others = λ x. others_all (file_names out chain) before.files now.files (ran.1 x);
  })
  part_of input.Unread end is more ran = subst (Part tells out first.faults t chain refused before now) (sym ran.0) (record {
    leaves = λ x. ran.1 x;
    cause = rose_then _ _ _ is (more (reading_account t) chain.capture);
    others = λ x. others_all (file_names out chain) before.files now.files (ran.1 x);
  })
    where
      rose_then : (a b c : ℕ) → Rose a b → b ≤ c → Rose a c
      rose_then a b c r l = omega arith

  pub ran_one : (i : TenantInput) (end : EndInCode) → IsInput tells t chain first before.faults i → NoneFell before now → RanOn tells out t chain refused i before now (Ok end)
      → TenantRan tells out first.faults t chain refused before now (record { name = chain.name; end = end_view end })
  ran_one i end is more ran =
      let p : Part tells out first.faults t chain refused before now (end_view end) = part_of i end is more ran in
      record {
        name = refl;
        promises = tenant_kept tells t out chain refused (held before.files first.faults) now (end_view end) p.leaves p.cause;
        others = p.others;
        later = more;
      }

-- whatever its end, each of its files is untouched or holds a prefix
pub may_one : (tells : Type 0) (out : List ℕ) (counts : FaultCounts) (t : ℕ) (chain : Chain) (refused : List ℕ) (before now : Held) (line : Line) → tells → TenantRan tells out counts t chain refused before now line → TenantMay out t chain refused before.files now.files
may_one tells out counts t chain refused before now line x r = record { files = end_may tells x (tenant_subject out t chain refused) (held before.files counts) now line.end r.promises; others = r.others x }

-- and so where memory ran out
pub may_failed : (tells : Type 0) (out : List ℕ) (t : ℕ) (chain : Chain) (refused : List ℕ) (first before now : Held) (i : TenantInput) (e : NoMemory) → tells → (tells → before.files chain.capture ≡ first.files chain.capture) → IsInput tells t chain first before.faults i
    → RanOn tells out t chain refused i before now (Err e) → TenantMay out t chain refused before.files now.files
may_failed tells out t chain refused first before now (input.Whole c) e x stays is ran = record {
  files = inr (c, subst (λ (o : Option (List ℕ)). IsSomeAnd o (λ bytes. IsReadable bytes c)) (sym (stays x)) (is x), (ran x).0);
  others = (ran x).1;
}
may_failed tells out t chain refused first before now input.TooLong e x stays is ran = absurd ran
may_failed tells out t chain refused first before now (input.Bad refusal) e x stays is ran = absurd ran
may_failed tells out t chain refused first before now input.Unread e x stays is ran = absurd ran

-- nothing was done for these tenants
pub may_none : (out : List ℕ) (refused : Refusals) (t : ℕ) (set : List Chain) (files : Files) → TenantsMay out refused t set files files
may_none out refused t [] files = λ name. refl
may_none out refused t (c ∷ set) files = (files, record { files = inl (same_refl (file_names out c) files); others = λ name apart. refl }, may_none out refused (suc t) set files)

-- THE TENANTS BEHIND IT

captures_more : (out : List ℕ) (c : Chain) (first before mid : Files) (set : List Chain) → OthersStayOf (file_names out c) before mid → AllByRecursion (TenantsApart out c) set
    → AllByRecursion (λ (d : Chain). before d.capture ≡ first d.capture) set → AllByRecursion (λ (d : Chain). mid d.capture ≡ first d.capture) set
captures_more out c first before mid [] others apart h = tt
captures_more out c first before mid (d ∷ set) others apart h = (others d.capture apart.0.capture ∙ h.0, captures_more out c first before mid set others apart.1 h.1)

pub can_more : (tells : Type 0) (out : List ℕ) (t : ℕ) (c : Chain) (set : List Chain) (first before mid : Held) (i : TenantInput) (is : List TenantInput) → CanRun tells out t (c ∷ set) first before (i ∷ is)
    → NoneFell before mid → (tells → OthersStayOf (file_names out c) before.files mid.files) → CanRun tells out (suc t) set first mid is
can_more tells out t c set first before mid i is can more others = record {
  read = inputs_later tells (suc t) set first before.faults mid.faults is more can.read.1;
  captures = λ x. captures_more out c first.files before.files mid.files set (others x) can.apart.0 (can.captures x).1;
  later = λ a n. let l = can.later a n in let m = more a n in omega arith;
  apart = can.apart.1;
}

-- WHAT WRITING LEFT

-- what is whole holds a prefix
held_may : (old new : Files) (t : Text) → Holds new t → MayHold old new t
held_may old new t h = inr (subst (λ (o : Option (List ℕ)). IsSomeAnd o (λ bytes. IsPrefix bytes t.bytes)) (sym h) ([], sym (append-nil t.bytes)))

untouched_may : (old new : Files) (ts : List Text) → Untouched old new ts → AllByRecursion (MayHold old new) ts
untouched_may old new [] h = tt
untouched_may old new (t ∷ ts) h = (inl h.0, untouched_may old new ts h.1)

pub stops_may : (why : Text → Type 0) (old new : Files) (ts : List Text) → StopsWithin why old new ts → AllByRecursion (MayHold old new) ts
stops_may why old new [] h = absurd h
stops_may why old new (t ∷ ts) (inl stop) = (stop.1, untouched_may old new ts stop.2)
stops_may why old new (t ∷ ts) (inr goes) = (held_may old new t goes.0, stops_may why old new ts goes.1)

-- where nothing was written
pub none_may : (files : Files) (ts : List Text) → AllByRecursion (MayHold files files) ts
none_may files [] = tt
none_may files (t ∷ ts) = (inl refl, none_may files ts)

pub none_written : (tells : Type 0) (out : List ℕ) (t : ℕ) (chain : Chain) (refused : List ℕ) (c : Contents) (before : Held)
    → tells → AllByRecursion (MayHold before.files before.files) (texts_of out chain refused c) × OthersStayOf (file_names out chain) before.files before.files
none_written tells out t chain refused c before x = (none_may before.files (texts_of out chain refused c), λ name apart. refl)

pub writes_same : (done : Type 0) (why : Text → Type 0) (texts others : List Text) (old new : Files) → texts ≡ others → WritesTexts done why texts old new → WritesTexts done why others old new
writes_same done why texts others old new same w = subst (λ (ts : List Text). WritesTexts done why ts old new) same w

pub rose_names : (a b : ℕ) (texts others : List Text) (files : List (List ℕ)) (before now : FaultCounts) → a ≡ b → texts ≡ others → map (λ (t : Text). t.name) others ≡ files
    → SomeRose a (map (λ (t : Text). t.name) texts) before now → SomeRose b files before now
rose_names a b texts others files before now account same names r =
    subst (λ (n : ℕ). SomeRose n files before now) account (subst (λ (ns : List (List ℕ)). SomeRose a ns before now) (ap (map (λ (t : Text). t.name)) same ∙ names) r)

-- STEPS OF THE RUN OF ALL

pub on_err : {A B : Type 0} (r : Result A B) (P : Type 0) → P → OnErr r P
on_err (Ok x) P p = tt
on_err (Err e) P p = p

-- every name stays
pub may_stay : (out : List ℕ) (refused : Refusals) (t : ℕ) (set : List Chain) (old new : Files) → AllStay old new → TenantsMay out refused t set old new
may_stay out refused t set old new stay = subst (λ (f : Files). TenantsMay out refused t set f new) (fun_ext stay) (may_none out refused t set new)

pub may_after : (out : List ℕ) (refused : Refusals) (t : ℕ) (set : List Chain) (old mid new : Files) → AllStay old mid → TenantsMay out refused t set mid new → TenantsMay out refused t set old new
may_after out refused t set old mid new stay may = subst (λ (f : Files). TenantsMay out refused t set f new) (fun_ext stay) may

module _ (tells : Type 0) (out : List ℕ) (refused : Refusals) (t : ℕ) (set : List Chain) (c : Chain) (more : List Chain) (inputs : List TenantInput) (i : TenantInput) (is : List TenantInput) (set_is : set ≡ c ∷ more) (inputs_are : inputs ≡ i ∷ is)
    (first before : Held) (can : CanRun tells out t set first before inputs) where
  can_first : CanRun tells out t (c ∷ more) first before (i ∷ is)
  can_first = subst (λ (s : List Chain). CanRun tells out t s first before (i ∷ is)) set_is (subst (λ (xs : List TenantInput). CanRun tells out t set first before xs) inputs_are can)

  whole : (now : Files) → TenantsMay out refused t (c ∷ more) before.files now → TenantsMay out refused t set before.files now
  whole now may = subst (λ (s : List Chain). TenantsMay out refused t s before.files now) (sym set_is) may

  -- memory ran out in the first
  pub failed_first : (now : Held) (e : NoMemory) → RanOn tells out t c (refused t) i before now (Err e) → tells → TenantsMay out refused t set before.files now.files
  failed_first now e ran x = whole now.files (now.files, may_failed tells out t c (refused t) first before now i e x (λ y. (can_first.captures y).0) can_first.read.0 ran, may_none out refused (suc t) more now.files)

  module _ (mid : Held) (end : EndInCode) (later : NoneFell before mid) (ran : RanOn tells out t c (refused t) i before mid (Ok end)) where
    first_ran : TenantRan tells out first.faults t c (refused t) before mid (record { name = c.name; end = end_view end })
    first_ran = ran_one tells out t c (refused t) first before mid can_first.later (λ y. (can_first.captures y).0) i end can_first.read.0 later ran

    -- it ran out behind the first
    pub stopped_behind : tells → TenantsMay out refused t set before.files mid.files
    stopped_behind x = whole mid.files (mid.files, may_one tells out first.faults t c (refused t) before mid (record { name = c.name; end = end_view end }) x first_ran, may_none out refused (suc t) more mid.files)

    pub can_behind : (n : ℕ) → n ≡ suc t → CanRun tells out n more first mid is
    can_behind n e = subst (λ (k : ℕ). CanRun tells out k more first mid is) (sym e) (can_more tells out t c more first before mid i is can_first later first_ran.others)

    -- it ran out in one of the others
    pub failed_behind : (n : ℕ) (now : Files) → n ≡ suc t → (tells → TenantsMay out refused n more mid.files now) → tells → TenantsMay out refused t set before.files now
    failed_behind n now e may x =
        whole now (mid.files, may_one tells out first.faults t c (refused t) before mid (record { name = c.name; end = end_view end }) x first_ran, subst (λ (k : ℕ). TenantsMay out refused k more mid.files now) e (may x))

    -- all were run
    pub ran_all : (n : ℕ) (now : Held) (told : List Line) → n ≡ suc t → TenantsRan tells out first.faults refused n more mid now told
        → TenantsRan tells out first.faults refused t set before now (record { name = c.name; end = end_view end } ∷ told)
    ran_all n now told e r =
        subst (λ (s : List Chain). TenantsRan tells out first.faults refused t s before now (record { name = c.name; end = end_view end } ∷ told)) (sym set_is)
        (mid, first_ran, subst (λ (k : ℕ). TenantsRan tells out first.faults refused k more mid now told) e r)

pub same_line : (a b : List ℕ) (end : TenantEnd) → a ≡ b → ◌≡◌ {A = Line} (record { name = a; end = end }) (record { name = b; end = end })
same_line a b end e = ap (λ n. let l : Line = record { name = n; end = end } in l) e

-- the captures are as they were
pub captures_stay : (first before : Files) (set : List Chain) → AllStay first before → AllByRecursion (λ (d : Chain). before d.capture ≡ first d.capture) set
captures_stay first before [] stay = tt
captures_stay first before (d ∷ set) stay = (stay d.capture, captures_stay first before set stay)

pub list_is : {A : Type 0} (old new list : List A) → old ≡ [] → new ≡ old ++ list → list ≡ new
list_is old new list none is = sym (is ∙ ap (λ l. l ++ list) none)

pub mapped_is : {A B : Type 0} (f : A → B) (old new : List A) (list : List B) → old ≡ [] → map f new ≡ map f old ++ list → list ≡ map f new
mapped_is f old new list none is = sym (is ∙ ap (λ l. map f l ++ list) none)

pub wrote_none : (tells : Type 0) (r : Result EndInCode NoMemory) (out : List ℕ) (t : ℕ) (chain : Chain) (refused : List ℕ) (c : Contents) (before : Held) → IsErr r → Wrote tells out t chain refused c before before r
wrote_none tells (Ok end) out t chain refused c before err = absurd (true≢false (sym err))
wrote_none tells (Err e) out t chain refused c before err = none_written tells out t chain refused c before

pub ran_none : (tells : Type 0) (r : Result (Vec LineInCode) NoMemory) (out : List ℕ) (refused : Refusals) (set : List Chain) (first now : Held) → IsErr r → (tells → TenantsMay out refused 0 set first.files now.files) → AllRan tells out refused set first now r
ran_none tells (Ok lines) out refused set first now err may = absurd (true≢false (sym err))
ran_none tells (Err e) out refused set first now err may = may
