use Rattle.window_stream.proofs.Places.{ready_is_greatest as law}
use Rattle.window_stream.proofs.laws.ready_is_greatest.Goals as goal

pub returns : goal.returns
returns c = law
