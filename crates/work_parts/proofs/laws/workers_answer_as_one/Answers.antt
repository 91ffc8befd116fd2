use Rattle.work_parts.proofs.Answers.{workers_answer_as_one}
use Rattle.work_parts.proofs.laws.workers_answer_as_one.Goals as goal

pub returns : goal.returns
returns c = workers_answer_as_one
