use Rattle.lane_table.proofs.Unseen
use Rattle.lane_table.proofs.laws.slots_are_unseen.Goals as goal

pub returns : goal.returns
returns c = Unseen.slots_unseen
