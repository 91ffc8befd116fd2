use Rattle.std.proofs.Common.{◌≡◌, [], List, map, length, Bool, true, false, Result, Ok, Err, IfOk, IsErr, refl}
use Rattle.brick_spec.specs.GroupOutput.{all_of}
use Rattle.brick_base.specs.declared.memory.NoMemory.{NoMemory}
use Rattle.work_core.specs.declared.result.WorkResult.{WorkResult}
use Rattle.chain_nodes.proofs.Runs.{run_answers}
use Rattle.chain_nodes.proofs.run.run_tenant.Goals as goal

only_ok : (r : Result WorkResult NoMemory) (P Q : WorkResult → Type 0) (failed : Bool) → (failed ≡ true → IsErr r) → IfOk r P → (failed ≡ false → (x : WorkResult) → P x → Q x) → IfOk r Q
only_ok (Err e) P Q failed f h k = tt
only_ok (Ok x) P Q true f h k = absurd (never (Ok x) refl (f refl)) where
  never : (r : Result WorkResult NoMemory) → r ≡ Ok x → IsErr r → ⊥
  never (Ok y) e z = cc
  never (Err y) e z = cc
only_ok (Ok x) P Q false f h k = k refl x h

pub returns : goal.returns
returns g c =
    let n = g.N.Node in
    only_ok c.take_results.result _ _ c.end.new.self.failed c.take_results.ensures.failed c.take_results.ensures.answer
    (λ fine r a. run_answers n.stands n.makes n.results n.serves c.args.work c.take_turns-work.result c.end.new.self (all_of c.args.batches.items) c.args.records r c.requires.begins c.take_turns-work.ensures c.end.ensures fine a)
