use Rattle.stage_path.proofs.Paths.{straight_means}
use Rattle.stage_path.proofs.laws.straight_path_is_row.Goals as goal

pub returns : goal.returns
returns g c = straight_means g.S.TreatRead.kind g.B.Operator.meaning.stands
