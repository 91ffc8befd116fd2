use Rattle.brick_spec.specs.GroupOutput.{all_of}
use Rattle.chain_nodes.specs.Run.{HasTurned}
use Rattle.chain_nodes.proofs.run.take_turns.Given as goal

abbrev pub invariant-loop-batch : goal.invariant-loop-batch
invariant-loop-batch g l = let n = g.N.Node in HasTurned n.stands n.makes n.results n.serves l.fn.work l.work (all_of l.yielded)
