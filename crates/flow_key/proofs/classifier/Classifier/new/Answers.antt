-- No flow was opened.
use Rattle.std.proofs.Common.{ap, map}
use Rattle.flow_key.specs.OpenedView.{opened_view}
use Rattle.flow_key.proofs.More.{no_flows}
use Rattle.flow_key.proofs.classifier.Classifier.new.Goals as goal

pub invariant_of-result : goal.invariant_of-result
invariant_of-result c = no_flows _ c.new-2.result _ (ap (map opened_view) c.new.ensures.items) c.new-2.ensures.empty c.new-3.ensures.items
