-- What a tenant's work answers at the end.
use Rattle.std.specs.Prelude.{ℕ, ◌≡◌, List, length}
use Rattle.brick_spec.specs.Flow.{Flow, Class}
use Rattle.brick_spec.specs.Item.{Item}
use Rattle.brick_spec.specs.FlowStage.{FlowInput}
use Rattle.flow_spec.specs.Parts.{Parts}
use Rattle.flow_spec.specs.Plan.{Plan, flow_meaning, leaf_count}
use Rattle.flow_spec.specs.Answer.{ClassedItem, answer}
use Rattle.flow_work.specs.Meaning.{Meaning}
use Rattle.flow_work.specs.Log.{OwnsKeys, AreRecords}
use Rattle.work_core.specs.Result.{result_view}
use Rattle.work_core.specs.declared.result.WorkResult.{WorkResult}
use Rattle.chain_nodes.specs.declared.work.NodeWork.{NodeWork}
use Rattle.chain_nodes.specs.Work.{EndedWith}

-- The result is what the plan that the places follow answers for each list of records that the work stands for.
abbrev pub Answers : {N : Type 0} → (N → Flow → FlowInput → Parts → Type 0) → (N → Meaning) → (N → List (List Item))
    → (N → ℕ → ℕ → ℕ → Type 0) → NodeWork N → WorkResult → Type 0
Answers stands makes results serves w r =
    (plan : Plan) (class_at : ℕ → Class) (n : ℕ) (list : List ClassedItem) → makes w.root ≡ flow_meaning plan
    → length (results w.root) ≡ leaf_count plan
    → OwnsKeys (flow_meaning plan) → AreRecords class_at n list → EndedWith stands makes results serves n w list
    → result_view r ≡ answer plan list n
