-- What is answered of a job whose works have ended.
use Rattle.std.specs.Prelude.{ℕ, ◌≡◌, List, map, length, nat_eq, false}
use Rattle.std.specs.List.{list_any, range_with_len}
use Rattle.flow_spec.specs.Answer.{ClassedItem, Answer}
use Rattle.flow_spec.specs.Plan.{Plan, leaf_count}
use Rattle.tenant_spec.specs.ChainPlan.{plan_of}
use Rattle.tenant_spec.specs.Records.{accepted_items, big_items}
use Rattle.tenant_spec.specs.Tenant.{output_lists}
use Rattle.run_spec.specs.Books.{Job}
use Rattle.work_core.specs.Result.{items_view}
use Rattle.work_core.specs.declared.job.TenantDone.{TenantDone}
use Rattle.work_parts.specs.Merged.{merged}
use Rattle.work_parts.specs.Tenants.{with_big}
use Rattle.work_crew.specs.Records.{records_in}
use Rattle.work_crew.specs.Crews.{items_for}

-- the records of each worker
abbrev pub worker_lists : ℕ → Job → List ℕ → List (List ClassedItem)
worker_lists workers job refused = map (items_for workers job refused) (range_with_len 0 workers)

-- what the works of the workers answer, joined
abbrev pub crew_answer : (Plan → List ClassedItem → ℕ → Answer) → ℕ → Job → List ℕ → Answer
crew_answer answer workers job refused = merged (leaf_count (plan_of job.chain))
    (map (λ list. answer (plan_of job.chain) list (records_in job)) (worker_lists workers job refused))

-- no count stands at its last value
abbrev pub AreExact : List ℕ → Type 0
AreExact counts = list_any (λ y. nat_eq y 4294967295) counts ≡ false

-- The outputs and the drops are what the works of the workers answer for the accepted records, joined, with the Big
-- records counted.
pub record IsTenantDone (answer : Plan → List ClassedItem → ℕ
    → Answer) (workers : ℕ) (job : Job) (refused : List ℕ) (d : TenantDone) : Type 0 where
  pub refused_are : d.refused ≡ refused
  pub accepted : d.accepted ≡ length (accepted_items job.chain refused job.capture)
  pub outputs : map items_view d.outputs.items ≡ output_lists job.chain (crew_answer answer workers job refused).groups
  pub drops : d.drops ≡ with_big (length (big_items job.chain job.capture))
      (crew_answer answer workers job refused).drops
  pub exact : AreExact (crew_answer answer workers job refused).drops
