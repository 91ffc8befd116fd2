use Rattle.lane_table.proofs.RingEvents.{finish_event}
use Rattle.lane_table.proofs.laws.finish_is_event.Goals as goal

pub returns : goal.returns
returns c = finish_event
