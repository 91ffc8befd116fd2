use Rattle.std.proofs.Common.{◌≡◌, length, map}
use Rattle.chain_spec.specs.ChainSet.{group_with}
use Rattle.chain_types.specs.GroupView.{group_view}
use Rattle.chain_file.specs.View.{named_view}
use Rattle.chain_file.proofs.outputs.groups_with.Given as goal

abbrev pub invariant-loop-group : goal.invariant-loop-group
invariant-loop-group l = record {
  value : map group_view l.groups.items ≡ map (group_with l.outputs) (map named_view l.yielded);
  len : length l.groups.items ≡ length l.yielded;
}
