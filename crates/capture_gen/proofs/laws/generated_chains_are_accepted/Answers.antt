use Rattle.capture_gen.proofs.Accepted.{accepted}
use Rattle.capture_gen.proofs.laws.generated_chains_are_accepted.Goals as goal

pub returns : goal.returns
returns c = accepted
