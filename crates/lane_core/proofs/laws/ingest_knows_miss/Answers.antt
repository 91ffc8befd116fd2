use Rattle.lane_core.proofs.Stated
use Rattle.lane_core.proofs.laws.ingest_knows_miss.Goals as goal

pub returns : goal.returns
returns c = Stated.ingest_miss
