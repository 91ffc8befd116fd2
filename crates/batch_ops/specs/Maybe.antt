-- An operator that may be there.
use Rattle.std.specs.Prelude.{ℕ, ◌≡◌, List, [], Option, Some, None, Bool, false}
use Rattle.brick_spec.specs.Flow.{Flow}
use Rattle.brick_spec.specs.FlowStage.{FlowStage, FlowInput, FlowOutput}
use Rattle.batch_ops.specs.Operator.{Meaning}

-- without one, each item passes
abbrev pub MaybeStands : {O : Type 0} → (O → Flow → FlowInput → FlowOutput → Type 0) → Option O → Flow → FlowInput
    → FlowOutput → Type 0
MaybeStands stands None flow came left = (left.passed ≡ came.items) × (left.dropped ≡ [])
MaybeStands stands (Some o) flow came left = stands o flow came left

abbrev pub MaybeReady : {O : Type 0} → (O → Type 0) → Option O → Type 0
MaybeReady ready None = Unit {0}
MaybeReady ready (Some o) = ready o

abbrev pub maybe_failed : {O : Type 0} → (O → Bool) → Option O → Bool
maybe_failed failed None = false
maybe_failed failed (Some o) = failed o

abbrev pub maybe_many : {O : Type 0} → (O → ℕ) → Option O → ℕ
maybe_many many None = 0
maybe_many many (Some o) = many o

abbrev pub maybe_row : {O : Type 0} → (O → Flow → List FlowStage) → Option O → Flow → List FlowStage
maybe_row row None flow = []
maybe_row row (Some o) flow = row o flow

abbrev pub maybe : {O : Type 0} → Meaning O → Meaning (Option O)
maybe m = record {
  stands = MaybeStands m.stands;
  ready = MaybeReady m.ready;
  failed = maybe_failed m.failed;
  spares = maybe_many m.spares;
  least_room = maybe_many m.least_room;
  row = maybe_row m.row;
}
