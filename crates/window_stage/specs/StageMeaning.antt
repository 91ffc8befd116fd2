-- What the stage means as an operator.
use Rattle.std.specs.Prelude.{◌+◌, ◌/◌, [], ◌∷◌}
use Rattle.batch_ops.specs.Operator.{Meaning}
use Rattle.flow_spec.specs.Window.{window_stage}
use Rattle.window_stage.specs.StageState.{WindowStands}
use Rattle.window_stage.specs.declared.stage.WindowStage.{WindowStage}

abbrev pub window_meaning : Meaning WindowStage
window_meaning = record {
  stands = λ s flow came left. WindowStands s.size s.reach s.flows flow came left;
  ready = λ _. Unit {0};
  failed = λ s. s.failed;
  spares = λ s. s.reach / s.size + 1;
  least_room = λ s. 54 + s.size;
  row = λ s flow. window_stage s.size s.reach flow ∷ [];
}
