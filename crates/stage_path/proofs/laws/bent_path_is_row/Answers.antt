use Rattle.stage_path.proofs.Paths.{bent_means}
use Rattle.stage_path.proofs.laws.bent_path_is_row.Goals as goal

pub returns : goal.returns
returns g c = bent_means g.S.TreatRead.kind g.W.Operator.meaning.stands
