-- What the stage stands for.
use Rattle.std.specs.Prelude.{ℕ}
use Rattle.brick_spec.specs.Flow.{Flow}
use Rattle.brick_spec.specs.FlowStage.{FlowInput, FlowOutput}
use Rattle.batch_ops.specs.Stage.{StageStands}
use Rattle.flow_spec.specs.Window.{window_stage}
use Rattle.window_stage.specs.Flows.{FlowsFit}
use Rattle.window_stage.specs.declared.flows.Flows.{Flows}

-- What left is what the stage makes of what came, and what is kept of the flow stands for the items that came.
abbrev pub WindowStands : ℕ → ℕ → Flows → Flow → FlowInput → FlowOutput → Type 0
WindowStands size reach flows flow came left =
    StageStands (window_stage size reach flow) came left × FlowsFit flows flow.number came.items
