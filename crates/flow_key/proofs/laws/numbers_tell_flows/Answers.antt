use Rattle.flow_key.proofs.FlowNumbers.{numbers_tell_flows as law}
use Rattle.flow_key.proofs.laws.numbers_tell_flows.Goals as goal

pub returns : goal.returns
returns c = law
