-- Jobs whose lanes are over, and what came of them.
use Rattle.std.proofs.Common.{◌≡◌, ℕ, ◌+◌, ◌≤◌, Bool, List, [], ◌∷◌, ◌++◌, map, length, sym, ap, ◌∙◌, subst, arith, inl, inr, Option, Some}
use Rattle.std.specs.Prelude.{slice_get, Result, Ok, IfOk}
use Rattle.std.proofs.lemmas.List.{length-append, length-map}
use Rattle.std.proofs.lemmas.Option.{slice_get_within, slice_get-map}
use Rattle.std.specs.Option.{option_map}
use Rattle.flow_spec.specs.Answer.{ClassedItem, Answer}
use Rattle.flow_spec.specs.Plan.{Plan}
use Rattle.lane_spec.specs.LaneBook.{LaneBook}
use Rattle.work_core.specs.declared.job.TenantDone.{TenantDone}
use Rattle.work_core.specs.declared.job.TenantJob.{TenantJob}
use Rattle.work_crew.specs.JobView.{job_view}
use Rattle.work_crew.specs.Members.{Members}
use Rattle.work_crew.specs.Rows.{Each}
use Rattle.work_crew.specs.Crews.{Threes, IsLaneDone}
use Rattle.work_crew.specs.Dones.{IsTenantDone}
use Rattle.work_crew.specs.JobEnds.{ArePlaced, CanEnd, HasEnded}
use Rattle.work_crew.specs.declared.crew.LaneDone.{LaneDone}
use Rattle.work_crew.specs.declared.finishing.JobEnd.{JobEnd}
use Rattle.work_crew.proofs.Members.{some_is, last_at, before_at}
use Rattle.work_crew.proofs.Rows.{last_or, there_at}

pub placed_more : {W : Type 0} (lanes rest : List (LaneDone W)) (ends mid : List (JobEnd W)) (lane : LaneDone W) (e : JobEnd W) → lanes ≡ rest ++ lane ∷ [] → ends ≡ mid ++ e ∷ [] → ArePlaced rest mid → e.job ≡ length rest → e.lane ≡ lane
    → ArePlaced lanes ends
placed_more lanes rest ends mid lane e lanes_are ends_are p job_is lane_is = record {
  count = let m = p.count in let a = ap length lanes_are ∙ length-append rest (lane ∷ []) in let b = ap length ends_are ∙ length-append mid (e ∷ []) in omega arith;
  each = λ t x at. elim (last_or mid e t x (ap (λ l. slice_get l t) (sym ends_are) ∙ at)) [
    | inl k ↦ let h = p.each t x k in (h.0, ap (λ l. slice_get l t) lanes_are ∙ before_at rest lane t x.lane h.1)
    | inr k ↦ (
      ap (λ (y : JobEnd _). y.job) k.1 ∙ (job_is ∙ (sym p.count ∙ sym k.0)),
      ap (λ l. slice_get l t) lanes_are ∙ (ap (slice_get (rest ++ lane ∷ [])) (k.0 ∙ p.count) ∙ (last_at rest lane ∙ ap Some (sym lane_is ∙ ap (λ (y : JobEnd _). y.lane) (sym k.1)))),
    )
  ];
}

pub none_placed : {W : Type 0} (lanes : List (LaneDone W)) (ends : List (JobEnd W)) → ends ≡ [] → length lanes ≡ 0 → ArePlaced lanes ends
none_placed lanes ends is none = record { count = ap length is ∙ sym none; each = λ t x at. absurd (let at' = ap (λ l. slice_get l t) (sym is) ∙ at in cc) }

module _ {W : Type 0} (follows : W → Plan → Type 0) (ready : W → Type 0) (stands : W → List ClassedItem → Type 0) (ended : W → Option ℕ) (broken : W → Bool) (workers : ℕ) (some : 1 ≤ workers) (jobs : List TenantJob)
    (lanes : List (LaneDone W)) (few : length lanes ≤ length jobs) (over : Members (λ job lane. (b : LaneBook) × IsLaneDone follows ready stands ended broken workers (job_view job) b lane) jobs lanes)
    (ends : List (JobEnd W)) (placed : ArePlaced lanes ends) where
  pub can_end : Each (CanEnd follows ready stands ended broken workers jobs) ends
  can_end t e at =
      let p = placed.each t e at in
      let below = slice_get_within lanes t e.lane p.1 in
      let here = p.0 in record {
        some = some;
        there = omega arith;
        lane = λ job at_job. over t job e.lane (ap (slice_get jobs) (sym here) ∙ at_job) p.1;
      }

module _ {W E : Type 0} (answer : Plan → List ClassedItem → ℕ → Answer) (workers : ℕ) (jobs : List TenantJob) (lanes : List (LaneDone W)) (ends : List (JobEnd W)) (placed : ArePlaced lanes ends)
    (outcomes : List (Result TenantDone E)) (ended : Members (λ end r. IfOk r (HasEnded answer workers jobs end)) ends outcomes) (done : List TenantDone) (gathered : map Ok done ≡ outcomes) where
  pub done_many : length outcomes ≡ length ends → length done ≡ length lanes
  done_many n = sym (length-map done Ok) ∙ (ap length gathered ∙ (n ∙ placed.count))

  pub all_ended : Threes (λ job lane d. IsTenantDone answer workers (job_view job) lane.refused d) jobs lanes done
  all_ended t job lane d at_job at_lane at_done =
      let below = slice_get_within lanes t lane at_lane in
      let n = placed.count in
      let e = there_at ends t (omega arith) in
      let p = placed.each t e.0 e.1 in
      let r : slice_get outcomes t ≡ Some (Ok d) = ap (λ l. slice_get l t) (sym gathered) ∙ (slice_get-map Ok done t ∙ ap (λ o. option_map Ok o) at_done) in
      subst (λ (l : LaneDone W). IsTenantDone answer workers (job_view job) l.refused d) (some_is (sym p.1 ∙ at_lane)) (ended t e.0 (Ok d) e.1 r job (ap (slice_get jobs) p.0 ∙ at_job))
