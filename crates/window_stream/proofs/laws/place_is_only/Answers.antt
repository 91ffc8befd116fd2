use Rattle.window_stream.proofs.Places.{place_is_only as law}
use Rattle.window_stream.proofs.laws.place_is_only.Goals as goal

pub returns : goal.returns
returns c = law
