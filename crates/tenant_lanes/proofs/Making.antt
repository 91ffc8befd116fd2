-- What the workers of a job answer together is the tenant meaning.
use Rattle.std.proofs.Common.{◌≡◌, ℕ, suc, ◌+◌, ◌≤◌, List, [], ◌∷◌, map, length, get_or, Some, refl, sym, ap, ◌∙◌, arith}
use Rattle.std.specs.List.{range_with_len}
use Rattle.flow_spec.specs.Answer as flows
use Rattle.flow_spec.specs.Answer.{Answer, ClassedItem, counts_of, dropped_of}
use Rattle.flow_spec.specs.Plan.{Plan, leaf_count}
use Rattle.lane_spec.specs.LaneBook.{LaneBook}
use Rattle.run_spec.specs.Books.{Job, unsent_in}
use Rattle.tenant_spec.specs.ChainPlan.{plan_of}
use Rattle.tenant_spec.specs.Records.{accepted_items, big_items}
use Rattle.tenant_spec.specs.Tenant as tenant
use Rattle.tenant_spec.specs.Tenant.{output_lists, reasons}
use Rattle.tenant_run.proofs.Counts.{counts_with_big}
use Rattle.work_core.specs.Made.{IsMade}
use Rattle.work_core.specs.declared.job.TenantDone.{TenantDone}
use Rattle.work_core.specs.declared.job.TenantJob.{TenantJob}
use Rattle.work_crew.specs.Crews.{Threes, items_for}
use Rattle.work_crew.specs.Dones.{IsTenantDone, crew_answer}
use Rattle.work_crew.specs.JobView.{job_view}
use Rattle.work_crew.specs.Records.{records_in}
use Rattle.work_crew.proofs.Dones.{big_set}
use Rattle.work_parts.specs.Merged.{merged}
use Rattle.work_parts.specs.Tenants.{joined_answer, IsTenantAnswer, WorkersMakeTenant}
use Rattle.tenant_lanes.specs.Dones.{AllMade}

one_map : {A B C : Type 0} (f : A → B) (g h : B → C) → ((y : B) → g y ≡ h y) → (xs : List A) → map g (map f xs) ≡ map (λ x. h (f x)) xs
one_map f g h same [] = refl
one_map f g h same (x ∷ xs) = λ i. same (f x) i ∷ one_map f g h same xs i

module _ (answer : Plan → List ClassedItem → ℕ → Answer) (means : (p : Plan) (list : List ClassedItem) (n : ℕ) → answer p list n ≡ flows.answer p list n) (workers : ℕ) (some : 1 ≤ workers) (makes : WorkersMakeTenant) where
  module _ (job : Job) (refused : List ℕ) where
    is : IsTenantAnswer job.chain refused job.capture (joined_answer job.chain refused job.capture workers)
    is = makes job.chain refused job.capture workers some

    joined : crew_answer answer workers job refused ≡ joined_answer job.chain refused job.capture workers
    joined = ap (merged (leaf_count (plan_of job.chain)))
        (one_map (items_for workers job refused) (λ list. answer (plan_of job.chain) list (records_in job)) (λ list. flows.answer (plan_of job.chain) list (records_in job))
        (λ list. means (plan_of job.chain) list (records_in job)) (range_with_len 0 workers))

    whole : crew_answer answer workers job refused ≡ tenant.answer job.chain (accepted_items job.chain refused job.capture) (records_in job)
    whole = joined ∙ is.same

    counts : (d : TenantDone) → IsTenantDone answer workers job refused d → d.drops ≡ counts_of (reasons job.chain refused job.capture)
    counts d h =
        let bigs = big_items job.chain job.capture in
        let drops = (crew_answer answer workers job refused).drops in
        h.drops ∙ (sym (big_set drops (length bigs) (get_or drops 0 0 + length bigs) refl)
        ∙ counts_with_big drops (length bigs) (get_or drops 0 0 + length bigs) (map (λ x. x.reason) (dropped_of (plan_of job.chain) (Some (records_in job)) (accepted_items job.chain refused job.capture))) bigs h.exact refl
        (ap (λ a. a.drops) whole) refl)

    one_made : (d : TenantDone) → IsTenantDone answer workers job refused d → IsMade job.chain refused job.capture d
    one_made d h = record {
      accepted = h.accepted;
      refused_are = h.refused_are;
      drops = counts d h;
      outputs = h.outputs ∙ (ap (λ a. output_lists job.chain a.groups) joined ∙ is.outputs);
    }

  -- so is that of each job
  pub all_made : (jobs : List TenantJob) (bs : List LaneBook) (ds : List TenantDone) → length bs ≡ length jobs → length ds ≡ length jobs
      → Threes (λ job b d. IsTenantDone answer workers (job_view job) (unsent_in (job_view job) b) d) jobs bs ds → AllMade (map job_view jobs) bs ds
  all_made [] [] [] e f h = tt
  all_made [] (b ∷ bs) ds e f h = absurd (omega arith)
  all_made [] [] (d ∷ ds) e f h = absurd (omega arith)
  all_made (job ∷ jobs) [] ds e f h = absurd (omega arith)
  all_made (job ∷ jobs) (b ∷ bs) [] e f h = absurd (omega arith)
  all_made (job ∷ jobs) (b ∷ bs) (d ∷ ds) e f h =
      (one_made (job_view job) (unsent_in (job_view job) b) d (h 0 job b d refl refl refl), all_made jobs bs ds (omega arith) (omega arith) (λ t x y z at_x at_y at_z. h (suc t) x y z at_x at_y at_z))
