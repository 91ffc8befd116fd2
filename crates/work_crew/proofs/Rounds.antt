-- One lane's turn among a worker's lanes.
use Rattle.std.proofs.Common.{◌≡◌, ◌≢◌, ℕ, ◌<◌, Bool, false, List, [], length, get_or, sym, ap, ◌∙◌, subst, arith, inl, inr, Some}
use Rattle.std.proofs.Math.ListN.{set}
use Rattle.std.specs.Prelude.{slice_get}
use Rattle.std.proofs.lemmas.Bool.Decides.{eqb_tells}
use Rattle.std.proofs.lemmas.List.{get_or-set_same, get_or-set_other, length-set}
use Rattle.std.proofs.lemmas.Option.{slice_get_within, get_or_from_slice_get, slice_get-get_or}
use Rattle.lane_core.specs.Seats.{WorkerFacts}
use Rattle.run_spec.specs.Books.{Job}
use Rattle.work_crew.specs.JobView.{job_view}
use Rattle.work_crew.specs.Served.{AreServed}
use Rattle.work_core.specs.declared.job.TenantJob.{TenantJob}

pub subst3 : {A B C : Type 0} (P : A → B → C → Type 0) {a a' : A} {b b' : B} {c c' : C} → a ≡ a' → b ≡ b' → c ≡ c' → P a b c → P a' b' c'
subst3 P {a' = a'} {b = b} {b' = b'} {c = c} p q r x = subst (P a' b') r (subst (λ y. P a' y c) q (subst (λ y. P y b c) p x))

within_set : {A : Type 0} (xs : List A) (t u : ℕ) (x a : A) → slice_get (set xs t x) u ≡ Some a → u < length xs
within_set xs t u x a at = let w = slice_get_within (set xs t x) u a at in let n = length-set xs t x in omega arith

other_at : {A : Type 0} (xs : List A) (t u : ℕ) (x a : A) → u ≢ t → slice_get (set xs t x) u ≡ Some a → slice_get xs u ≡ Some a
other_at xs t u x a not at = slice_get-get_or xs u a (within_set xs t u x a at) ∙ ap Some (sym (get_or-set_other xs t u x a not) ∙ get_or_from_slice_get (set xs t x) u a a at)

same_at : {A : Type 0} (xs : List A) (t u : ℕ) (x a : A) → u ≡ t → slice_get (set xs t x) u ≡ Some a → a ≡ x
same_at xs t u x a is at = let w = within_set xs t u x a at in let w' : t < length xs = omega arith in
    sym (get_or_from_slice_get (set xs t x) u a a at) ∙ ap (λ k. get_or (set xs t x) k a) is ∙ get_or-set_same xs t x a w'

pub put_one : {A : Type 0} (P : ℕ → A → Type 0) (xs : List A) (t : ℕ) (x : A) → ((u : ℕ) (a : A) → slice_get xs u ≡ Some a → P u a) → P t x → (u : ℕ) (a : A) → slice_get (set xs t x) u ≡ Some a → P u a
put_one P xs t x all here u a at = elim (eqb_tells u t) [
  | inl h ↦ subst (λ k. P k a) (sym h.1) (subst (P t) (sym (same_at xs t u x a h.1 at)) here)
  | inr h ↦ all u a (other_at xs t u x a h.1 at)
]

pub put_two : {A B : Type 0} (P : ℕ → A → B → Type 0) (xs : List A) (ys : List B) (t : ℕ) (x : A) (y : B) → ((u : ℕ) (a : A) (b : B) → slice_get xs u ≡ Some a → slice_get ys u ≡ Some b → P u a b) → P t x y
    → (u : ℕ) (a : A) (b : B) → slice_get (set xs t x) u ≡ Some a → slice_get (set ys t y) u ≡ Some b → P u a b
put_two P xs ys t x y all here u a b at_a at_b = elim (eqb_tells u t) [
  | inl h ↦ subst (λ k. P k a b) (sym h.1) (subst (λ a. P t a b) (sym (same_at xs t u x a h.1 at_a)) (subst (P t x) (sym (same_at ys t u y b h.1 at_b)) here))
  | inr h ↦ all u a b (other_at xs t u x a h.1 at_a) (other_at ys t u y b h.1 at_b)
]

module _ {L S W : Type 0} (owns : L → S → Type 0) (facts : S → WorkerFacts) (worked : Job → WorkerFacts → W → Type 0) (same : W → W → Type 0) (chain : (a b c : W) → same a b → same b c → same a c)
    (lanes : List L) (jobs : List TenantJob) (seats_before seats : List S) (works_before works : List W) (marks : List Bool)
    (h : AreServed owns facts worked same lanes jobs seats_before seats works_before works marks) where
  pub one_turn : (t : ℕ) (old seat : S) (before work : W) (marks' : List Bool) → slice_get seats t ≡ Some old → slice_get works t ≡ Some before → length marks' ≡ 16
      → ((lane : L) → slice_get lanes t ≡ Some lane → owns lane seat) → (facts seat).ended ≡ get_or marks' t false → ((u : ℕ) → u ≢ t → get_or marks' u false ≡ get_or marks u false)
      → (facts seat).held ≡ [] → (facts seat).place ≡ (facts old).place → ((job : TenantJob) → slice_get jobs t ≡ Some job → worked (job_view job) (facts seat) work) → same work before
      → AreServed owns facts worked same lanes jobs seats_before (set seats t seat) works_before (set works t work) marks'
  one_turn t old seat before work marks' at at_work count own mark others held place done stays = record {
    seats_count = length-set seats t seat ∙ h.seats_count;
    works_count = length-set works t work ∙ h.works_count;
    marks_count = count;
    own = λ u lane s at_lane at_s. put_one (λ u s. (lane : L) → slice_get lanes u ≡ Some lane → owns lane s) seats t seat (λ u s at lane at_lane. h.own u lane s at_lane at) own u s at_s lane at_lane;
    marked = λ u s at. elim (eqb_tells u t) [
      | inl e ↦ ap (λ s. (facts s).ended) (same_at seats t u seat s e.1 at) ∙ mark ∙ ap (λ k. get_or marks' k false) (sym e.1)
      | inr e ↦ h.marked u s (other_at seats t u seat s e.1 at) ∙ sym (others u e.1)
    ];
    held = put_one (λ u s. (facts s).held ≡ []) seats t seat h.held held;
    places = λ u first s at_first at_new. put_one (λ u s. (first : S) → slice_get seats_before u ≡ Some first → (facts s).place ≡ (facts first).place) seats t seat (λ u s at first at_first. h.places u first s at_first at)
        (λ first at_first. place ∙ h.places t first old at_first at) u s at_new first at_first;
    done = λ u s w job at_seat at_w at_job. put_two (λ u s w. (job : TenantJob) → slice_get jobs u ≡ Some job → worked (job_view job) (facts s) w) seats works t seat work
        (λ u s w at_s at_w job at_job. h.done u s w job at_s at_w at_job) done u s w at_seat at_w job at_job;
    stays = λ u first w at_first at_w. put_one (λ u w. (first : W) → slice_get works_before u ≡ Some first → same w first) works t work (λ u w at first at_first. h.stays u first w at_first at)
        (λ first at_first. chain work before first stays (h.stays t first before at_first at_work)) u w at_w first at_first;
  }
