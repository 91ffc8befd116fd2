use Rattle.std.proofs.Common.{Result, Ok, Err, IfOk}
use Rattle.brick_base.specs.declared.memory.NoMemory.{NoMemory}
use Rattle.work_core.specs.declared.result.WorkResult.{WorkResult}
use Rattle.chain_run.proofs.tree_work.TreeWorkChainWork.take_results.Goals as goal

if_ok : (r : Result WorkResult NoMemory) (P Q : WorkResult → Type 0) → ((x : WorkResult) → P x → Q x) → IfOk r P → IfOk r Q
if_ok (Ok x) P Q k h = k x h
if_ok (Err e) P Q k h = tt

pub returns-clause-answer : goal.returns-clause-answer
returns-clause-answer g c = if_ok c.take_results.result _ _ (λ r a p class_at n list h. a p class_at n list h.0 h.1) c.take_results.ensures.answer
