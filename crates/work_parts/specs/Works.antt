-- Works that end, and what they give.
use Rattle.std.specs.Prelude.{◌≡◌, ℕ, List, [], ◌∷◌, map, Option, None}
use Rattle.brick_spec.specs.Flow.{Class}
use Rattle.flow_spec.specs.Answer.{ClassedItem, Answer}
use Rattle.flow_spec.specs.Plan.{Plan, leaf_count, flow_meaning}
use Rattle.flow_work.specs.Log.{OwnsKeys, AreRecords}
use Rattle.work_core.specs.Result.{result_view}
use Rattle.work_core.specs.declared.result.WorkResult.{WorkResult}
use Rattle.work_parts.specs.Merged.{merged}

-- it may be used, and has not ended
abbrev pub IsOpen : {W : Type 0} → (W → Type 0) → (W → Option ℕ) → W → Type 0
IsOpen ready ended w = ready w × (ended w ≡ None)

-- The result is what the plan that the work follows answers for each list of one capture's records that it stands for.
abbrev pub IsResultOf : {W : Type 0} → (W → Plan → Type 0) → (W → List ClassedItem → Type 0)
    → (Plan → List ClassedItem → ℕ → Answer) → ℕ → W → WorkResult → Type 0
IsResultOf follows stands answer n w part =
    (plan : Plan) (class_at : ℕ → Class) (list : List ClassedItem) → follows w plan → OwnsKeys (flow_meaning plan)
    → AreRecords class_at n list → stands w list → result_view part ≡ answer plan list n

-- each of them that of the work at its place
abbrev pub AreResultsOf : {W : Type 0} → (W → Plan → Type 0) → (W → List ClassedItem → Type 0)
    → (Plan → List ClassedItem → ℕ → Answer) → ℕ → List W → List WorkResult → Type 0
AreResultsOf follows stands answer n [] [] = Unit {0}
AreResultsOf follows stands answer n [] (part ∷ parts) = ⊥
AreResultsOf follows stands answer n (w ∷ works) [] = ⊥
AreResultsOf follows stands answer n (w ∷ works) (part ∷ parts) =
    IsResultOf follows stands answer n w part × AreResultsOf follows stands answer n works parts

-- Each work follows the plan, and stands for the list at its place: records of a capture of n records, of which record
-- k has this class.
abbrev pub StandFor : {W : Type 0} → (W → Plan → Type 0) → (W → List ClassedItem → Type 0) → Plan → (ℕ → Class) → ℕ
    → List W → List (List ClassedItem) → Type 0
StandFor follows stands plan class_at n [] [] = Unit {0}
StandFor follows stands plan class_at n [] (list ∷ lists) = ⊥
StandFor follows stands plan class_at n (w ∷ works) [] = ⊥
StandFor follows stands plan class_at n (w ∷ works) (list ∷ lists) =
    follows w plan × AreRecords class_at n list × stands w list × StandFor follows stands plan class_at n works lists

-- The result is what the works answer, joined, for each plan that they follow and all lists that they stand for.
abbrev pub GivesMerged : {W : Type 0} → (W → Plan → Type 0) → (W → List ClassedItem → Type 0)
    → (Plan → List ClassedItem → ℕ → Answer) → ℕ → List W → WorkResult → Type 0
GivesMerged follows stands answer n works whole =
    (plan : Plan) (class_at : ℕ → Class) (lists : List (List ClassedItem)) → OwnsKeys (flow_meaning plan)
    → StandFor follows stands plan class_at n works lists
    → result_view whole ≡ merged (leaf_count plan) (map (λ list. answer plan list n) lists)
