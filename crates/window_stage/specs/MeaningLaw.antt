-- What the stage stands for is what it makes.
use Rattle.batch_ops.specs.Stage.{MeansStages}
use Rattle.batch_ops.proofs.Stages.{row_of_one}
use Rattle.flow_spec.specs.Window.{window_stage}
use Rattle.window_stage.specs.StageMeaning.{window_meaning}

pub window_means : MeansStages window_meaning
window_means s flow came left was = row_of_one (window_stage s.size s.reach flow) came left was.0
