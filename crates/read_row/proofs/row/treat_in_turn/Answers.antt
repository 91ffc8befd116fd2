use Rattle.read_row.proofs.Closing.{read_now}
use Rattle.read_row.proofs.row.treat_in_turn.Goals as goal

pub read_in_turn-outcome-requires : goal.read_in_turn-outcome-requires
read_in_turn-outcome-requires g c = read_now c.args.packet c.in-Ok.read.packet c.in-Ok.ensures.ok
