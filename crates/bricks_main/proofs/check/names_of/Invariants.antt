use Rattle.std.proofs.Common.{◌≡◌, map, take}
use Rattle.run_spec.specs.Check.{names_of}
use Rattle.chain_types.specs.View.{chain_view}
use Rattle.bricks_main.proofs.check.names_of.Given as goal

-- the names so far
abbrev pub invariant-loop-chain : goal.invariant-loop-chain
invariant-loop-chain l = l.names.items ≡ names_of (map chain_view (take l.chain-index l.chains))
