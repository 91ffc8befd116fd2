use Rattle.lane_table.proofs.RingEvents.{release_event}
use Rattle.lane_table.proofs.laws.release_is_event.Goals as goal

pub returns : goal.returns
returns c = release_event
