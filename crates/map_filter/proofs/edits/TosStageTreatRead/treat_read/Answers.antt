use Rattle.brick_spec.specs.Stage.{tos_stage}
use Rattle.map_filter.specs.declared.edits.TosStage.{TosStage}
use Rattle.map_filter.proofs.Steps.{keeps}
use Rattle.map_filter.proofs.edits.TosStageTreatRead.treat_read.Goals as goal

pub returns-clause-treats : goal.returns-clause-treats
returns-clause-treats c = keeps (λ (s : TosStage). tos_stage s.value) c.args.self.now c.args.«_class».now c.args.packet.now.packet c.set_tos.new.packet c.set_tos.ensures.kept
