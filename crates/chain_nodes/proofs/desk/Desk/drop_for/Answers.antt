use Rattle.std.proofs.Common.{◌∙◌, ◌∷◌, [], ap, Some, slice_index}
use Rattle.batch_ops.specs.declared.outlet.Dropped.{Dropped}
use Rattle.chain_nodes.proofs.Settles.{one_counted}
use Rattle.chain_nodes.proofs.desk.Desk.drop_for.Goals as goal

pub returns-clause-counts : goal.returns-clause-counts
returns-clause-counts c =
    one_counted c.args.self.now.counts c.put_back.new.self.counts (record { reason = Some c.args.reason; packet = c.args.packet }) (λ k l. ap (λ cs. slice_index cs k) c.put_back.ensures.counts ∙ c.count.ensures k l)
