use Rattle.worked_rows.proofs.Groups.{sharing_picks}
use Rattle.worked_rows.proofs.sharing_picks_the_first.Goals as goal

pub returns : goal.returns
returns c = sharing_picks
