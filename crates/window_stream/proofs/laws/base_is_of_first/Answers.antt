use Rattle.window_stream.proofs.Bases.{base_is_of_first as law}
use Rattle.window_stream.proofs.laws.base_is_of_first.Goals as goal

pub returns : goal.returns
returns c = law
