use Rattle.std.proofs.Common.{◌∙◌, ap, slice_index}
use Rattle.chain_nodes.proofs.Settles.{one_counted}
use Rattle.chain_nodes.proofs.desk.Desk.take_dropped.Goals as goal

pub returns-then-lost-clause-counts : goal.returns-then-lost-clause-counts
returns-then-lost-clause-counts c =
    one_counted c.args.self.now.counts c.put_back.new.self.counts c.args.dropped (λ k l. ap (λ cs. slice_index cs k) c.put_back.ensures.counts ∙ c.count.ensures k l)

pub returns-else-lost-clause-counts : goal.returns-else-lost-clause-counts
returns-else-lost-clause-counts c =
    one_counted c.args.self.now.counts c.put_back.new.self.counts c.args.dropped (λ k l. ap (λ cs. slice_index cs k) c.put_back.ensures.counts ∙ c.count.ensures k l)
