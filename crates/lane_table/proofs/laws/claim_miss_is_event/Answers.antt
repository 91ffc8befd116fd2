use Rattle.lane_table.proofs.Unseen
use Rattle.lane_table.proofs.laws.claim_miss_is_event.Goals as goal

pub returns : goal.returns
returns c = Unseen.claim_miss
