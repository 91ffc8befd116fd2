-- The records of a tenant shared out among workers: what each answers for its own, and what they answer together.
use Rattle.std.specs.Prelude.{◌≡◌, ◌≢◌, ℕ, ◌≤◌, ◌%◌, List, map, filter}
use Rattle.std.specs.List.{AllByRecursion, range_with_len}
use Rattle.brick_spec.specs.Flow.{Flow, Class}
use Rattle.flow_spec.specs.Answer.{ClassedItem, Answer, answer, is_of, flows_of}
use Rattle.flow_spec.specs.Plan.{Plan, leaf_count, flow_meaning}
use Rattle.flow_work.specs.Log.{OwnsKeys, AreRecords}
use Rattle.run_spec.specs.Books.{goes_to}
use Rattle.work_core.specs.ChainWork.{HaveNoFlow}
use Rattle.work_parts.specs.Merged.{merged}

-- the records of worker w, in order
abbrev pub records_for : ℕ → List ClassedItem → ℕ → List ClassedItem
records_for workers list w = filter (goes_to workers w) list

-- the worker of a flow's records
abbrev pub worker_for : ℕ → Flow → ℕ
worker_for workers f = f.hash % workers

-- what each worker answers for its records, in a capture of n
abbrev pub answers_of : Plan → ℕ → List ClassedItem → ℕ → List Answer
answers_of plan workers list n = map (λ w. answer plan (records_for workers list w) n) (range_with_len 0 workers)

-- THE LAWS

-- two workers have no flow in common
abbrev pub WorkersHaveNoFlow : Type 0
WorkersHaveNoFlow =
    (class_at : ℕ → Class) (n : ℕ) (list : List ClassedItem) (workers v w : ℕ) → AreRecords class_at n list → v ≢ w
    → HaveNoFlow (records_for workers list v) (records_for workers list w)

-- a flow comes to its worker whole, and in order
abbrev pub FlowsComeWhole : Type 0
FlowsComeWhole = (class_at : ℕ → Class) (n : ℕ) (list : List ClassedItem) (workers : ℕ) → AreRecords class_at n list
    → AllByRecursion (λ f. filter (is_of f) (records_for workers list (worker_for workers f))
    ≡ filter (is_of f) list) (flows_of list)

-- Whatever the sharing, what the workers answer, joined, is what one work answers for all records.
abbrev pub WorkersAnswerAsOne : Type 0
WorkersAnswerAsOne = (plan : Plan) (class_at : ℕ → Class) (n : ℕ) (list : List ClassedItem) (workers : ℕ)
    → OwnsKeys (flow_meaning plan) → AreRecords class_at n list → 1 ≤ workers
    → merged (leaf_count plan) (answers_of plan workers list n) ≡ answer plan list n
