use Rattle.chain_run.specs.Tree.{root_serves}
use Rattle.chain_run.proofs.Store.{store_serves}
use Rattle.chain_run.proofs.tree_work.TreeWorkNewWork.of_chain.Goals as goal

pub new-requires-2-clause-serves : goal.new-requires-2-clause-serves
new-requires-2-clause-serves g c = store_serves (root_serves g.P.Operator.meaning) c.in_ok-root.root _ _ c.in_ok-spare.spare c.in_ok-spare.ensures c.in_ok-root.ensures.serves
