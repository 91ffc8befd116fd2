-- What paths mean.
use Rattle.std.specs.Prelude.{◌++◌, List, ◌∷◌, Option, None, Bool}
use Rattle.brick_spec.specs.Flow.{Flow}
use Rattle.brick_spec.specs.FlowStage.{FlowStage, FlowInput, FlowOutput}
use Rattle.batch_ops.specs.Operator.{Meaning}
use Rattle.batch_ops.specs.Maybe.{MaybeStands}
use Rattle.batch_ops.specs.Stage.{StageStands, RowStands}
use Rattle.batch_ops.specs.Then.{ThenStands}
use Rattle.batch_ops.specs.Treat.{Kind, RowHolds, held_by, stages_at}

-- a row of stages, and an operator behind it, which a value holds
abbrev pub path : {S B T : Type 0} → Kind S → Meaning B → (T → List S) → (T → B) → (T → Bool) → Meaning T
path k m stages behind failed = record {
  stands = λ t flow came left. ThenStands (RowHolds (held_by k)) m.stands (stages t) (behind t) flow came left;
  ready = λ t. m.ready (behind t);
  failed = failed;
  spares = λ t. m.spares (behind t);
  least_room = λ t. m.least_room (behind t);
  row = λ t flow. stages_at k (stages t) flow ++ m.row (behind t) flow;
}

-- a path without an operator means its stages, one after another
abbrev pub StraightMeansRow : {S B : Type 0} → Kind S → (B → Flow → FlowInput → FlowOutput → Type 0) → Type 0
StraightMeansRow {S} {B} k stands =
    (ss : List S) (flow : Flow) (came : FlowInput) (left : FlowOutput)
    → ThenStands (RowHolds (held_by k)) (MaybeStands stands) ss (let none : Option B = None in none) flow came left
    → RowStands (stages_at k ss flow) came left

-- A path with an operator that means a stage: it means the stages before, this one, and the stages behind, one after
-- another.
abbrev pub BentMeansRow : {S W : Type 0} → Kind S → (W → Flow → FlowInput → FlowOutput → Type 0) → Type 0
BentMeansRow {S} {W} k stands =
    (ss : List S) (w : W) (ts : List S) (flow : Flow) (stage : FlowStage)
    → ((came : FlowInput) (left : FlowOutput) → stands w flow came left → StageStands stage came left)
    → (came : FlowInput) (left : FlowOutput)
    → ThenStands (RowHolds (held_by k)) (λ (w : W). ThenStands stands (RowHolds (held_by k)) w ts) ss w flow came left
    → RowStands (stages_at k ss flow ++ (stage ∷ stages_at k ts flow)) came left
