use Rattle.std.proofs.Common.{◌∷◌, [], Some, refl}
use Rattle.brick_base.specs.Flow.{flow_of}
use Rattle.batch_ops.proofs.Stages.{end_adds_nothing}
use Rattle.batch_ops.specs.Stage.{RowStands}
use Rattle.chain_nodes.proofs.NoRows.{passes_all}
use Rattle.chain_nodes.proofs.none.NoStagesOperator.end.Goals as goal

pub returns : goal.returns
returns c =
    end_adds_nothing (λ p flow came left. RowStands [] came left) (λ p. Unit {0}) c.args.self.now tt c.args._class.now c.args._records c.args._out.now (passes_all c.args.self.now (flow_of c.args._class.now) [] (Some c.args._records))
