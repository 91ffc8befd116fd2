use Rattle.brick_spec.proofs.Routes.{first_fault_is_first as law}
use Rattle.lpm_fw.proofs.laws.first_fault_is_first.Goals as goal

pub returns : goal.returns
returns c = law
