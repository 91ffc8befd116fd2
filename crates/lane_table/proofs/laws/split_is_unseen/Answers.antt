use Rattle.lane_table.proofs.Handed
use Rattle.lane_table.proofs.laws.split_is_unseen.Goals as goal

pub returns : goal.returns
returns c = Handed.split_unseen
