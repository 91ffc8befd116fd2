use Rattle.brick_spec.proofs.Classes.{flows_are_counted as law}
use Rattle.flow_key.proofs.laws.flows_are_counted.Goals as goal

pub returns : goal.returns
returns c = law
