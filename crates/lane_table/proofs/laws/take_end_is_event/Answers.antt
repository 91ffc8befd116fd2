use Rattle.lane_table.proofs.LastEvents
use Rattle.lane_table.proofs.laws.take_end_is_event.Goals as goal

pub returns : goal.returns
returns c = LastEvents.take_end
