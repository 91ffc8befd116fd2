-- The jobs of some tenants.
use Rattle.std.proofs.Common.{◌≡◌, ◌⊎◌, inl, inr, ℕ, zero, suc, ◌+◌, ◌≤◌, ◌<◌, List, [], ◌∷◌, ◌++◌, map, length, Option, Some, IsSomeAnd, refl, sym, ap, ◌∙◌, subst, arith, append_assoc, append-nil}
use Rattle.std.specs.Prelude.{All, Contains, slice_get, true, false}
use Rattle.std.specs.List.{AllByRecursion}
use Rattle.std.proofs.lemmas.List.{length-append, map-append}
use Rattle.std.proofs.lemmas.List.Elements.{All-nil, All-cons, All-append, All-weaker, Contains-append_left, Contains-append_right}
use Rattle.brick_spec.specs.Capture.{Contents}
use Rattle.brick_spec.specs.Cause.{Rose, reading_account}
use Rattle.brick_spec.specs.Files.{Files, FaultCounts}
use Rattle.chain_spec.specs.ChainSet.{Chain, file_names}
use Rattle.run_spec.specs.Books.{Job}
use Rattle.run_spec.specs.Lanes.{numbers_in, AreRisingNumbers}
use Rattle.run_spec.specs.Seen.{Held, IsTenant, Captured}
use Rattle.run_spec.specs.Subject.{NoneTouched}
use Rattle.tenant_files.specs.Inputs.{IsInput, AreInputs}
use Rattle.tenant_files.specs.declared.inputs.TenantInput.{TenantInput}
use Rattle.tenant_files.specs.declared.inputs.TenantInput.TheVariants as input
use Rattle.tenant_files.proofs.Tenants.{captured_long, captured_bad}
use Rattle.run_report.specs.View.{refusal_view}
use Rattle.lane_runs.specs.declared.jobs.Part.{Part}
use Rattle.lane_runs.specs.declared.jobs.Tenant.{Tenant}
use Rattle.lane_runs.specs.Jobs.{own_job, jobs_of, unnumbered, is_whole, part_of, place_after, AreTenants, IsJob}
use Rattle.lane_runs.specs.Writing.{UnreadStay}

-- ONE MORE TENANT, behind the others

own_unnumbered : (t : ℕ) (c : Chain) (i : TenantInput) → map unnumbered (own_job t c i) ≡ own_job 0 c i
own_unnumbered t c (input.Whole k) = refl
own_unnumbered t c input.TooLong = refl
own_unnumbered t c (input.Bad r) = refl
own_unnumbered t c input.Unread = refl

jobs_more : (t : ℕ) (set : List Chain) (inputs : List TenantInput) (c : Chain) (i : TenantInput) → length set ≡ length inputs
    → jobs_of t (set ++ c ∷ []) (inputs ++ i ∷ []) ≡ jobs_of t set inputs ++ own_job (t + length set) c i
jobs_more t [] [] c i e = append-nil (own_job t c i) ∙ ap (λ n. own_job n c i) (let z : t ≡ t + 0 = omega arith in z)
jobs_more t [] (j ∷ inputs) c i e = absurd (omega arith)
jobs_more t (d ∷ set) [] c i e = absurd (omega arith)
jobs_more t (d ∷ set) (j ∷ inputs) c i e =
    ap (λ js. own_job t d j ++ js) (jobs_more (suc t) set inputs c i (omega arith) ∙ ap (λ n. jobs_of (suc t) set inputs ++ own_job n c i) (let z : suc t + length set ≡ t + suc (length set) = omega arith in z))
    ∙ sym (append_assoc (own_job t d j) (jobs_of (suc t) set inputs) (own_job (t + suc (length set)) c i))

pub unnumbered_more : (set : List Chain) (inputs : List TenantInput) (c : Chain) (i : TenantInput) → length set ≡ length inputs
    → map unnumbered (jobs_of 0 (set ++ c ∷ []) (inputs ++ i ∷ [])) ≡ map unnumbered (jobs_of 0 set inputs) ++ own_job 0 c i
unnumbered_more set inputs c i e =
    ap (map unnumbered) (jobs_more 0 set inputs c i e) ∙ map-append unnumbered (jobs_of 0 set inputs) (own_job (0 + length set) c i)
    ∙ ap (λ js. map unnumbered (jobs_of 0 set inputs) ++ js) (own_unnumbered (0 + length set) c i)

own_few : (t : ℕ) (c : Chain) (i : TenantInput) → length (own_job t c i) ≤ 1
own_few t c (input.Whole k) = omega arith
own_few t c input.TooLong = omega arith
own_few t c (input.Bad r) = omega arith
own_few t c input.Unread = omega arith

-- no tenant has two
pub jobs_few : (t : ℕ) (set : List Chain) (inputs : List TenantInput) → length (jobs_of t set inputs) ≤ length set
jobs_few t [] inputs = omega arith
jobs_few t (c ∷ set) [] = omega arith
jobs_few t (c ∷ set) (i ∷ inputs) = omega (arith, length-append (own_job t c i) (jobs_of (suc t) set inputs), own_few t c i, jobs_few (suc t) set inputs)

place_long : (k t : ℕ) (c : Chain) (i : TenantInput) (js : List Job) → place_after k i + length js ≡ k + length (own_job t c i ++ js)
place_long k t c (input.Whole x) js = omega arith
place_long k t c input.TooLong js = refl
place_long k t c (input.Bad r) js = refl
place_long k t c input.Unread js = refl

pub tenants_more : (k t : ℕ) (set : List Chain) (inputs : List TenantInput) (tenants : List Tenant) (c : Chain) (i : TenantInput) (w : Tenant) → AreTenants k set inputs tenants
    → w.name ≡ c.name → w.part ≡ part_of (k + length (jobs_of t set inputs)) i → AreTenants k (set ++ c ∷ []) (inputs ++ i ∷ []) (tenants ++ w ∷ [])
tenants_more k t [] [] [] c i w are name part = (name, part ∙ ap (λ n. part_of n i) (omega arith), tt)
tenants_more k t [] [] (v ∷ tenants) c i w are name part = absurd are
tenants_more k t [] (j ∷ inputs) tenants c i w are name part = absurd are
tenants_more k t (d ∷ set) [] tenants c i w are name part = absurd are
tenants_more k t (d ∷ set) (j ∷ inputs) [] c i w are name part = absurd are
tenants_more k t (d ∷ set) (j ∷ inputs) (v ∷ tenants) c i w are name part =
    (are.0, are.1, tenants_more (place_after k j) (suc t) set inputs tenants c i w are.2 name (part ∙ ap (λ n. part_of n i) (sym (place_long k t d j (jobs_of (suc t) set inputs)))))

-- THEIR NUMBERS

own_from : (t : ℕ) (c : Chain) (i : TenantInput) → All (λ n. t ≤ n) (numbers_in (own_job t c i))
own_from t c (input.Whole x) = All-cons (λ n. t ≤ n) t [] (omega arith) (All-nil (λ n. t ≤ n))
own_from t c input.TooLong = All-nil (λ n. t ≤ n)
own_from t c (input.Bad r) = All-nil (λ n. t ≤ n)
own_from t c input.Unread = All-nil (λ n. t ≤ n)

numbers_append : (js ks : List Job) → numbers_in (js ++ ks) ≡ numbers_in js ++ numbers_in ks
numbers_append js ks = map-append (λ (j : Job). j.number) js ks

numbers_from : (t : ℕ) (set : List Chain) (inputs : List TenantInput) → All (λ n. t ≤ n) (numbers_in (jobs_of t set inputs))
numbers_from t [] inputs = All-nil (λ n. t ≤ n)
numbers_from t (c ∷ set) [] = All-nil (λ n. t ≤ n)
numbers_from t (c ∷ set) (i ∷ inputs) = subst (All (λ n. t ≤ n)) (sym (numbers_append (own_job t c i) (jobs_of (suc t) set inputs)))
    (All-append (λ n. t ≤ n) (numbers_in (own_job t c i)) (numbers_in (jobs_of (suc t) set inputs)) (own_from t c i)
    (All-weaker (λ n. suc t ≤ n) (λ n. t ≤ n) (λ n le. omega arith) (numbers_in (jobs_of (suc t) set inputs)) (numbers_from (suc t) set inputs)))

pub numbers_rise : (t : ℕ) (set : List Chain) (inputs : List TenantInput) → AreRisingNumbers (numbers_in (jobs_of t set inputs))
numbers_rise t [] inputs = tt
numbers_rise t (c ∷ set) [] = tt
numbers_rise t (c ∷ set) (input.Whole x ∷ inputs) =
    (All-weaker (λ n. suc t ≤ n) (λ n. t < n) (λ n le. omega arith) (numbers_in (jobs_of (suc t) set inputs)) (numbers_from (suc t) set inputs), numbers_rise (suc t) set inputs)
numbers_rise t (c ∷ set) (input.TooLong ∷ inputs) = numbers_rise (suc t) set inputs
numbers_rise t (c ∷ set) (input.Bad r ∷ inputs) = numbers_rise (suc t) set inputs
numbers_rise t (c ∷ set) (input.Unread ∷ inputs) = numbers_rise (suc t) set inputs

-- WHAT THEY ARE

-- they are tenants of the whole set, from number t on, and their captures are read so
pub jobs_are : (tells : Type 0) (whole : List Chain) (t : ℕ) (set : List Chain) (first : Held) (now : FaultCounts) (inputs : List TenantInput) → ((k : ℕ) (c : Chain) → slice_get set k ≡ Some c → slice_get whole (t + k) ≡ Some c)
    → AreInputs tells t set first now inputs → tells → AllByRecursion (IsJob whole first.files) (jobs_of t set inputs)
jobs_are tells whole t [] first now inputs at are x = tt
jobs_are tells whole t (c ∷ set) first now [] at are x = tt
jobs_are tells whole t (c ∷ set) first now (i ∷ inputs) at are x =
    by i are.0
    (jobs_are tells whole (suc t) set first now inputs (λ k d is. subst (λ (n : ℕ). slice_get whole n ≡ Some d) (let z : t + suc k ≡ suc t + k = omega arith in z) (at (suc k) d is)) are.1 x)
  where
    here : IsTenant whole t c
    here = subst (λ (n : ℕ). slice_get whole n ≡ Some c) (let z : t + 0 ≡ t = omega arith in z) (at 0 c refl)

    by : (i : TenantInput) → IsInput tells t c first now i → AllByRecursion (IsJob whole first.files) (jobs_of (suc t) set inputs) → AllByRecursion (IsJob whole first.files) (own_job t c i ++ jobs_of (suc t) set inputs)
    by (input.Whole k) is behind = ((here, is x), behind)
    by input.TooLong is behind = behind
    by (input.Bad r) is behind = behind
    by input.Unread is behind = behind

-- a tenant whose capture is held and read, and on whose capture its reading count did not rise, has a job
pub has_job : (tells : Type 0) (t : ℕ) (set : List Chain) (first : Held) (counts : FaultCounts) (now : Held) (inputs : List TenantInput) (k : ℕ) (c : Chain) (x : Contents) → ((a : ℕ) (n : List ℕ) → counts a n ≤ now.faults a n)
    → AreInputs tells t set first counts inputs → tells → slice_get set k ≡ Some c → Captured first.files c.capture x
    → ¬ (Rose (first.faults (reading_account (t + k)) c.capture) (now.faults (reading_account (t + k)) c.capture)) → Contains (numbers_in (jobs_of t set inputs)) (t + k)
has_job tells t [] first counts now inputs k c x later are h at captured none = cc
has_job tells t (d ∷ set) first counts now [] k c x later are h at captured none = absurd are
has_job tells t (d ∷ set) first counts now (i ∷ inputs) zero c x later are h at captured none =
    subst (λ (ns : List ℕ). Contains ns (t + 0)) (sym (numbers_append (own_job t d i) (jobs_of (suc t) set inputs)))
    (Contains-append_left (numbers_in (own_job t d i)) (numbers_in (jobs_of (suc t) set inputs)) (t + 0) (by i are.0))
  where
    same : d ≡ c
    same = cc

    read : Captured first.files d.capture x
    read = subst (λ (y : Chain). Captured first.files y.capture x) (sym same) captured

    quiet : ¬ (Rose (first.faults (reading_account t) d.capture) (now.faults (reading_account t) d.capture))
    quiet = subst (λ (y : Chain). ¬ (Rose (first.faults (reading_account t) y.capture) (now.faults (reading_account t) y.capture))) (sym same)
        (subst (λ (n : ℕ). ¬ (Rose (first.faults (reading_account n) c.capture) (now.faults (reading_account n) c.capture))) (let z : t + 0 ≡ t = omega arith in z) none)

    rose_then : (a b e : ℕ) → Rose a b → b ≤ e → Rose a e
    rose_then a b e r l = omega arith

    by : (i : TenantInput) → IsInput tells t d first counts i → Contains (numbers_in (own_job t d i)) (t + 0)
    by (input.Whole y) is = (0, omega arith, let z : t ≡ t + 0 = omega arith in z)
    by input.TooLong is = absurd (captured_long first.files d x read (is h))
    by (input.Bad r) is = absurd (captured_bad first.files d x (refusal_view r) read (is h))
    by input.Unread is = absurd (quiet (rose_then _ _ _ is (later (reading_account t) d.capture)))
has_job tells t (d ∷ set) first counts now (i ∷ inputs) (suc k) c x later are h at captured none =
    let n : t + suc k ≡ suc t + k = omega arith in
    subst (λ (ns : List ℕ). Contains ns (t + suc k)) (sym (numbers_append (own_job t d i) (jobs_of (suc t) set inputs)))
    (Contains-append_right (numbers_in (own_job t d i)) (numbers_in (jobs_of (suc t) set inputs)) (t + suc k)
    (subst (λ (m : ℕ). Contains (numbers_in (jobs_of (suc t) set inputs)) m) (sym n)
    (has_job tells (suc t) set first counts now inputs k c x later are.1 h at captured
    (subst (λ (m : ℕ). ¬ (Rose (first.faults (reading_account m) c.capture) (now.faults (reading_account m) c.capture))) n none))))

-- no file of a tenant without a job is touched
pub none_without : (out : List ℕ) (t : ℕ) (set : List Chain) (inputs : List TenantInput) (before now : Files) (k : ℕ) (c : Chain) → length set ≡ length inputs → UnreadStay out set inputs before now
    → slice_get set k ≡ Some c → ¬ (Contains (numbers_in (jobs_of t set inputs)) (t + k)) → NoneTouched (file_names out c) before now
none_without out t [] inputs before now k c long stay at none = cc
none_without out t (d ∷ set) [] before now k c long stay at none = absurd (omega arith)
none_without out t (d ∷ set) (i ∷ inputs) before now zero c long stay at none =
    let same : d ≡ c = cc in
    subst (λ (y : Chain). NoneTouched (file_names out y) before now) same (stay.0 (by i none))
  where
    by : (i : TenantInput) → ¬ (Contains (numbers_in (own_job t d i ++ jobs_of (suc t) set inputs)) (t + 0)) → is_whole i ≡ false
    by (input.Whole y) has_none = absurd (has_none (0, omega arith, let z : t ≡ t + 0 = omega arith in z))
    by input.TooLong has_none = refl
    by (input.Bad r) has_none = refl
    by input.Unread has_none = refl
none_without out t (d ∷ set) (i ∷ inputs) before now (suc k) c long stay at none =
    let n : t + suc k ≡ suc t + k = omega arith in
    none_without out (suc t) set inputs before now k c (omega arith) stay.1 at
    (λ in_them. none (subst (λ (ns : List ℕ). Contains ns (t + suc k)) (sym (numbers_append (own_job t d i) (jobs_of (suc t) set inputs)))
    (Contains-append_right (numbers_in (own_job t d i)) (numbers_in (jobs_of (suc t) set inputs)) (t + suc k) (subst (λ (m : ℕ). Contains (numbers_in (jobs_of (suc t) set inputs)) m) (sym n) in_them))))
