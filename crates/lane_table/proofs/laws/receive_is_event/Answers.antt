use Rattle.lane_table.proofs.TakeEvent.{receive_event}
use Rattle.lane_table.proofs.laws.receive_is_event.Goals as goal

pub returns : goal.returns
returns c = receive_event
