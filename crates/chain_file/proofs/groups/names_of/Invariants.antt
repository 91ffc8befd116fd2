use Rattle.std.proofs.Common.{◌≡◌, ◌++◌, drop, map}
use Rattle.chain_file.specs.View.{group_names}
use Rattle.chain_file.proofs.groups.names_of.Given as goal

abbrev pub invariant-loop-group : goal.invariant-loop-group
invariant-loop-group l = map (λ x. x.now) l.names.items ++ group_names (drop l.group-index l.groups) ≡ group_names l.groups
