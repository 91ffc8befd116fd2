-- What is ready to be written.
use Rattle.std.proofs.Common.{◌≡◌, ℕ, zero, suc, ◌+◌, ◌≤◌, ◌<◌, List, [], ◌∷◌, map, length, filter, Option, Some, refl, sym, ap, ◌∙◌, subst, arith, true, false, nat_eq, get_or, inl, inr}
use Rattle.std.specs.Prelude.{Result, slice_get, All, not, ◌&&◌, if◌then◌else◌, Bool}
use Rattle.std.specs.List.{AllByRecursion, AllZip}
use Rattle.std.proofs.lemmas.Bool.{ne_eqb}
use Rattle.std.proofs.lemmas.Bool.Decides.{eqb_tells}
use Rattle.std.proofs.lemmas.List.{length-map}
use Rattle.std.proofs.lemmas.Option.{get_or_from_slice_get}
use Rattle.std.proofs.lemmas.List.Filters.{length-filter_both}
use Rattle.std.proofs.lemmas.List.Elements.{All-head, All-tail}
use Rattle.brick_base.specs.declared.memory.NoMemory.{NoMemory}
use Rattle.brick_spec.specs.Capture.{Contents, Entry}
use Rattle.brick_spec.specs.Item.{Item, items_from}
use Rattle.chain_spec.specs.ChainSet.{Chain}
use Rattle.chain_types.specs.View.{chain_view}
use Rattle.lane_spec.specs.LaneBook.{LaneBook}
use Rattle.tenant_spec.specs.Records.{items_of, is_big}
use Rattle.run_spec.specs.Books.{Job, unsent_in, is_sent, refused_by}
use Rattle.run_spec.specs.Isolation.{Refusals}
use Rattle.run_spec.specs.Lanes.{numbers_in, AreRisingNumbers}
use Rattle.run_spec.specs.Seen.{Held}
use Rattle.run_report.specs.declared.report.TenantEnd.{TenantEnd}
use Rattle.work_core.specs.Made.{IsMade}
use Rattle.work_core.specs.declared.job.TenantDone.{TenantDone}
use Rattle.work_core.specs.declared.job.TenantJob.{TenantJob}
use Rattle.work_crew.specs.JobView.{job_view}
use Rattle.tenant_lanes.specs.Dones.{AllMade}
use Rattle.tenant_files.specs.Run.{RanOn}
use Rattle.tenant_files.specs.Written.{Wrote}
use Rattle.tenant_files.specs.declared.inputs.TenantInput.{TenantInput}
use Rattle.tenant_files.specs.declared.inputs.TenantInput.TheVariants as input
use Rattle.lane_runs.specs.declared.jobs.Part.{Part}
use Rattle.lane_runs.specs.declared.jobs.Part.TheVariants as part
use Rattle.lane_runs.specs.declared.jobs.Tenant.{Tenant}
use Rattle.lane_runs.specs.Jobs.{own_job, jobs_of, unnumbered, part_of, place_after, AreTenants}
use Rattle.lane_runs.specs.Writing.{IsDoneOf, IsDoneAt, IsReady, AreReady}

-- A TENANT

same_at : {A : Type 0} (xs : List A) (k : ℕ) (x y : A) → slice_get xs k ≡ Some x → y ≡ get_or xs k y → x ≡ y
same_at xs k x y a b = sym (get_or_from_slice_get xs k x y a) ∙ sym b

pub done_here : (jobs : List TenantJob) (done : List TenantDone) (k : ℕ) (j : TenantJob) (d : TenantDone) → j ≡ get_or jobs k j → d ≡ get_or done k d → IsDoneAt jobs done (part.Job k) → IsDoneOf j d
done_here jobs done k j d at_j at_d (j', d', at_j', at_d', is) =
    subst (λ (x : TenantDone). IsDoneOf j x) (same_at done k d' d at_d' at_d) (subst (λ (x : TenantJob). IsDoneOf x d') (same_at jobs k j' j at_j' at_j) is)

pub ran_here : (tells : Type 0) (out : List ℕ) (t : ℕ) (before now : Held) (r : Result TenantEnd NoMemory) (jobs : List TenantJob) (done : List TenantDone) (k : ℕ) (j : TenantJob) (d : TenantDone)
    → j ≡ get_or jobs k j → d ≡ get_or done k d → (chain : Chain) (refused : List ℕ) (i : TenantInput) → IsReady jobs done chain refused i (part.Job k)
    → Wrote tells out t (chain_view j.chain) d.refused j.capture before now r → RanOn tells out t chain refused i before now r
ran_here tells out t before now r jobs done k j d at_j at_d chain refused (input.Whole c) (j', d', at_j', at_d', chain_is, capture_is, refused_are, is) wrote =
    let same_j : j' ≡ j = same_at jobs k j' j at_j' at_j in
    let same_d : d' ≡ d = same_at done k d' d at_d' at_d in
    let a : chain_view j.chain ≡ chain = ap (λ (x : TenantJob). chain_view x.chain) (sym same_j) ∙ chain_is in
    let b : j.capture ≡ c = ap (λ (x : TenantJob). x.capture) (sym same_j) ∙ capture_is in
    let e : d.refused ≡ refused = ap (λ (x : TenantDone). x.refused) (sym same_d) ∙ refused_are in
    subst (λ (x : Chain). Wrote tells out t x refused c before now r) a
    (subst (λ (x : List ℕ). Wrote tells out t (chain_view j.chain) x c before now r) e (subst (λ (x : Contents). Wrote tells out t (chain_view j.chain) d.refused x before now r) b wrote))
ran_here tells out t before now r jobs done k j d at_j at_d chain refused input.TooLong ready wrote = absurd ready
ran_here tells out t before now r jobs done k j d at_j at_d chain refused (input.Bad f) ready wrote = absurd ready
ran_here tells out t before now r jobs done k j d at_j at_d chain refused input.Unread ready wrote = absurd ready

-- what is ready is done
pub ready_done : (jobs : List TenantJob) (done : List TenantDone) (refused : Refusals) (t : ℕ) (set : List Chain) (inputs : List TenantInput) (tenants : List Tenant) → AreReady jobs done refused t set inputs tenants
    → AllByRecursion (λ (w : Tenant). IsDoneAt jobs done w.part) tenants
ready_done jobs done refused t [] [] [] ready = tt
ready_done jobs done refused t [] [] (w ∷ tenants) ready = absurd ready
ready_done jobs done refused t [] (i ∷ inputs) tenants ready = absurd ready
ready_done jobs done refused t (c ∷ set) [] tenants ready = absurd ready
ready_done jobs done refused t (c ∷ set) (i ∷ inputs) [] ready = absurd ready
ready_done jobs done refused t (c ∷ set) (i ∷ inputs) (w ∷ tenants) ready = (one i w.part ready.1, ready_done jobs done refused (suc t) set inputs tenants ready.2)
  where
    one : (i : TenantInput) (p : Part) → IsReady jobs done c (refused t) i p → IsDoneAt jobs done p
    one (input.Whole k) (part.Job n) (j, d, at_j, at_d, chain_is, capture_is, refused_are, is) = (j, d, at_j, at_d, is)
    one i part.TooLong r = tt
    one i (part.Bad f) r = tt
    one i part.Unread r = tt
    one input.TooLong (part.Job n) r = absurd r
    one (input.Bad f) (part.Job n) r = absurd r
    one input.Unread (part.Job n) r = absurd r

-- WHICH RECORDS ARE REFUSED

above : (n : ℕ) (jobs : List Job) (bs : List LaneBook) (one : List ℕ) (job : Job) (b : LaneBook) → All (λ k. n < k) (numbers_in jobs) → job.number ≡ n
    → AllZip (λ (j : Job) (x : LaneBook). refused_by jobs bs j.number ≡ unsent_in j x) jobs bs → AllZip (λ (j : Job) (x : LaneBook). refused_by (job ∷ jobs) (b ∷ bs) j.number ≡ unsent_in j x) jobs bs
above n jobs bs one job b more num each = go jobs bs more each
  where
    past : (k : ℕ) → n < k → refused_by (job ∷ jobs) (b ∷ bs) k ≡ refused_by jobs bs k
    past k lt = ap (λ (x : Bool). let ns : List ℕ = if x then unsent_in job b else refused_by jobs bs k in ns) (unequal (job.number) k (let z : job.number < k = omega arith in z))
      where
        unequal : (a b : ℕ) → a < b → nat_eq a b ≡ false
        unequal a b lt = ne_eqb a b (λ e. omega arith)

    go : (js : List Job) (xs : List LaneBook) → All (λ k. n < k) (numbers_in js) → AllZip (λ (j : Job) (x : LaneBook). refused_by jobs bs j.number ≡ unsent_in j x) js xs
        → AllZip (λ (j : Job) (x : LaneBook). refused_by (job ∷ jobs) (b ∷ bs) j.number ≡ unsent_in j x) js xs
    go [] [] m h = tt
    go [] (x ∷ xs) m h = absurd h
    go (j ∷ js) [] m h = absurd h
    go (j ∷ js) (x ∷ xs) m h = (past j.number (All-head (λ k. n < k) j.number (numbers_in js) m) ∙ h.0, go js xs (All-tail (λ k. n < k) j.number (numbers_in js) m) h.1)

-- of each job, those that its own Book says
pub own_refused : (jobs : List Job) (bs : List LaneBook) (P : Job → LaneBook → Type 0) → AreRisingNumbers (numbers_in jobs) → AllZip P jobs bs
    → AllZip (λ (j : Job) (b : LaneBook). refused_by jobs bs j.number ≡ unsent_in j b) jobs bs
own_refused [] [] P rise each = tt
own_refused [] (b ∷ bs) P rise each = absurd each
own_refused (j ∷ jobs) [] P rise each = absurd each
own_refused (j ∷ jobs) (b ∷ bs) P rise each = (
  ap (λ (x : Bool). let ns : List ℕ = if x then unsent_in j b else refused_by jobs bs j.number in ns) (equal j.number),
  above j.number jobs bs [] j b rise.0 refl (own_refused jobs bs P rise.1 each.1),
)
  where
    equal : (n : ℕ) → nat_eq n n ≡ true
    equal n = elim (eqb_tells n n) [ inl e ↦ e.0 | inr e ↦ absurd (e.1 refl) ]

-- ALL TENANTS

items_long : (start : ℕ) (es : List Entry) → length (items_from start es) ≡ length es
items_long start [] = refl
items_long start (e ∷ es) = ap suc (items_long (suc start) es)

unsent_long : (job : Job) (b : LaneBook) → length (unsent_in job b) ≤ length job.capture.entries
unsent_long job b =
    let keep : Item → Bool = λ i. not (is_big job.chain i) && not (is_sent b i.a) in
    omega (arith, length-map (filter keep (items_of job.capture)) (λ (i : Item). i.a), length-filter_both keep (λ i. not (keep i)) (λ i. refl) (items_of job.capture), items_long 0 job.capture.entries)

at_more : {A : Type 0} (whole rest : List A) (k : ℕ) (x : A) → ((n : ℕ) (y : A) → slice_get (x ∷ rest) n ≡ Some y → slice_get whole (k + n) ≡ Some y) → (n : ℕ) (y : A) → slice_get rest n ≡ Some y → slice_get whole (suc k + n) ≡ Some y
at_more whole rest k x at n y is = subst (λ (m : ℕ). slice_get whole m ≡ Some y) (let z : k + suc n ≡ suc k + n = omega arith in z) (at (suc n) y is)

at_first : {A : Type 0} (whole rest : List A) (k : ℕ) (x : A) → ((n : ℕ) (y : A) → slice_get (x ∷ rest) n ≡ Some y → slice_get whole (k + n) ≡ Some y) → slice_get whole k ≡ Some x
at_first whole rest k x at = subst (λ (m : ℕ). slice_get whole m ≡ Some x) (let z : k + 0 ≡ k = omega arith in z) (at 0 x refl)

-- of a job, from what the lanes made
one_ready : (jobs : List TenantJob) (done : List TenantDone) (k t : ℕ) (chain : Chain) (refused : List ℕ) (c : Contents) (j : TenantJob) (b : LaneBook) (d : TenantDone) → slice_get jobs k ≡ Some j → slice_get done k ≡ Some d
    → job_view j ≡ record { number = 0; chain = chain; capture = c } → refused ≡ unsent_in (record { number = t; chain = chain; capture = c }) b
    → IsMade (job_view j).chain (unsent_in (job_view j) b) (job_view j).capture d → IsReady jobs done chain refused (input.Whole c) (part.Job k)
one_ready jobs done k t chain refused c j b d at_j at_d view refused_are made =
    let refused_view : unsent_in (job_view j) b ≡ unsent_in (record { number = 0; chain = chain; capture = c }) b = ap (λ (x : Job). unsent_in x b) view in (
      j,
      d,
      at_j,
      at_d,
      ap (λ (x : Job). x.chain) view,
      ap (λ (x : Job). x.capture) view,
      made.refused_are ∙ refused_view ∙ sym refused_are,
      record {
        records = subst (λ (ns : List ℕ). length ns ≤ length j.capture.entries) (sym made.refused_are) (unsent_long (job_view j) b);
        made = subst (λ (ns : List ℕ). IsMade (chain_view j.chain) ns j.capture d) (sym made.refused_are) made;
      },
    )

module _ (jobs : List TenantJob) (done : List TenantDone) (refused : Refusals) where
  pub all_ready : (t k : ℕ) (set : List Chain) (inputs : List TenantInput) (tenants : List Tenant) (js : List TenantJob) (bs : List LaneBook) (ds : List TenantDone)
      → ((n : ℕ) (x : TenantJob) → slice_get js n ≡ Some x → slice_get jobs (k + n) ≡ Some x) → ((n : ℕ) (x : TenantDone) → slice_get ds n ≡ Some x → slice_get done (k + n) ≡ Some x)
      → map job_view js ≡ map unnumbered (jobs_of t set inputs) → AllMade (map job_view js) bs ds
      → AllZip (λ (j : Job) (b : LaneBook). refused j.number ≡ unsent_in j b) (jobs_of t set inputs) bs → AreTenants k set inputs tenants → AreReady jobs done refused t set inputs tenants
  all_ready t k [] [] [] js bs ds at_js at_ds views made own are = tt
  all_ready t k [] [] (w ∷ tenants) js bs ds at_js at_ds views made own are = absurd are
  all_ready t k [] (i ∷ inputs) tenants js bs ds at_js at_ds views made own are = absurd are
  all_ready t k (c ∷ set) [] tenants js bs ds at_js at_ds views made own are = absurd are
  all_ready t k (c ∷ set) (i ∷ inputs) [] js bs ds at_js at_ds views made own are = absurd are
  all_ready t k (c ∷ set) (input.Whole x ∷ inputs) (w ∷ tenants) [] bs ds at_js at_ds views made own are = cc
  all_ready t k (c ∷ set) (input.Whole x ∷ inputs) (w ∷ tenants) (j ∷ js) [] ds at_js at_ds views made own are = absurd own
  all_ready t k (c ∷ set) (input.Whole x ∷ inputs) (w ∷ tenants) (j ∷ js) (b ∷ bs) [] at_js at_ds views made own are = absurd made
  all_ready t k (c ∷ set) (input.Whole x ∷ inputs) (w ∷ tenants) (j ∷ js) (b ∷ bs) (d ∷ ds) at_js at_ds views made own are =
      let this : job_view j ≡ record { number = 0; chain = c; capture = x } = cc in
      let rest : map job_view js ≡ map unnumbered (jobs_of (suc t) set inputs) = cc in (
        are.0,
        subst (IsReady jobs done c (refused t) (input.Whole x)) (sym are.1) (one_ready jobs done k t c (refused t) x j b d (at_first jobs js k j at_js) (at_first done ds k d at_ds) this own.0 made.0),
        all_ready (suc t) (suc k) set inputs tenants js bs ds (at_more jobs js k j at_js) (at_more done ds k d at_ds) rest made.1 own.1 are.2,
      )
  all_ready t k (c ∷ set) (input.TooLong ∷ inputs) (w ∷ tenants) js bs ds at_js at_ds views made own are =
      (are.0, subst (IsReady jobs done c (refused t) input.TooLong) (sym are.1) tt, all_ready (suc t) k set inputs tenants js bs ds at_js at_ds views made own are.2)
  all_ready t k (c ∷ set) (input.Bad f ∷ inputs) (w ∷ tenants) js bs ds at_js at_ds views made own are =
      (are.0, subst (IsReady jobs done c (refused t) (input.Bad f)) (sym are.1) refl, all_ready (suc t) k set inputs tenants js bs ds at_js at_ds views made own are.2)
  all_ready t k (c ∷ set) (input.Unread ∷ inputs) (w ∷ tenants) js bs ds at_js at_ds views made own are =
      (are.0, subst (IsReady jobs done c (refused t) input.Unread) (sym are.1) tt, all_ready (suc t) k set inputs tenants js bs ds at_js at_ds views made own are.2)
