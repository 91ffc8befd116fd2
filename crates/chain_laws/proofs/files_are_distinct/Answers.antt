use Rattle.chain_laws.proofs.Files.{files_are_distinct}
use Rattle.chain_laws.proofs.files_are_distinct.Goals as goal

pub returns : goal.returns
returns c = files_are_distinct
