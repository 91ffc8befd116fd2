use Rattle.lane_table.proofs.LastEvents
use Rattle.lane_table.proofs.laws.receive_miss_is_event.Goals as goal

pub returns : goal.returns
returns c = LastEvents.receive_miss
