use Rattle.lane_table.proofs.RingEvents.{send_event}
use Rattle.lane_table.proofs.laws.send_is_event.Goals as goal

pub returns : goal.returns
returns c = send_event
