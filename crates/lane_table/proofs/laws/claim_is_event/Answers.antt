use Rattle.lane_table.proofs.Events.{claim_event}
use Rattle.lane_table.proofs.laws.claim_is_event.Goals as goal

pub returns : goal.returns
returns c = claim_event
