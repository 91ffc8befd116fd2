-- What the numbers of flows tell.
use Rattle.std.specs.Prelude.{ℕ, ◌≡◌, ◌<◌, Option, List, length}
use Rattle.brick_spec.specs.FlowClass.{NatPlan, class_at}

-- Records with one flow number have one flow.
abbrev pub NumbersTellFlows : Type 0
NumbersTellFlows = (plan : Option NatPlan) (frames : List (List ℕ)) (j k : ℕ) → j < length frames → k < length frames
    → (class_at plan frames j).flow.number ≡ (class_at plan frames k).flow.number
    → (class_at plan frames j).flow ≡ (class_at plan frames k).flow
