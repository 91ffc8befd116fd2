use Rattle.lpm_fw.proofs.Unique.{one_longest}
use Rattle.lpm_fw.proofs.laws.one_longest_prefix.Goals as goal

pub returns : goal.returns
returns c = one_longest
