use Rattle.std.proofs.Common.{◌≡◌, ◌∙◌, ap}
use Rattle.chain_spec.specs.ChainSet.{is_below_right}
use Rattle.chain_spec.proofs.Outputs.{below_right}
use Rattle.chain_file.specs.NamedView.{named_below_view}
use Rattle.chain_file.proofs.outputs.group_with.Goals as goal

pub invariant_of-result : goal.invariant_of-result
invariant_of-result c = record {
  named = c.args.group.named;
  stages_right = c.args.group.stages_right;
  below_right = ap is_below_right c.in_ok-below.ensures ∙ below_right c.args.outputs.now (named_below_view c.args.group.below) c.args.group.below_right;
}
