use Rattle.chain_nodes.proofs.Runs.{turned_none, turned_more}
use Rattle.chain_nodes.proofs.run.take_turns.Goals as goal

pub loop-batch-init : goal.loop-batch-init
loop-batch-init g c = let n = g.N.Node in turned_none n.stands n.makes n.results n.serves c.args.work c.requires.ready c.requires.none_left

pub loop-batch-preserved : goal.loop-batch-preserved
loop-batch-preserved g c =
    let n = g.N.Node in
    turned_more n.stands n.makes n.results n.serves c.args.work c.loop-batch.work c.turn.new.self c.loop-batch.yielded c.in-Some.batch c.turn.new.back c.loop-batch.invariant c.turn.ensures.turned
