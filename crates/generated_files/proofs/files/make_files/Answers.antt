use Rattle.std.proofs.Common.{◌∙◌}
use Rattle.generated_files.proofs.files.make_files.Goals as goal

pub read_chain-requires-clause-text : goal.read_chain-requires-clause-text
read_chain-requires-clause-text c = c.as_str.ensures.value ∙ c.in_ok-chains.ensures

pub returns-clause-capture : goal.returns-clause-capture
returns-clause-capture c = c.in_ok-capture.ensures.capture

pub returns-clause-readable : goal.returns-clause-readable
returns-clause-readable c = c.in_ok-capture.ensures.readable
