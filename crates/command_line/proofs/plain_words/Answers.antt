use Rattle.command_line.proofs.Plain.{plain_line}
use Rattle.command_line.proofs.plain_words.Goals as goal

pub returns : goal.returns
returns c = plain_line
