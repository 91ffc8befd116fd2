use Rattle.std.proofs.Common.{◌≡◌, drop}
use Rattle.chain_spec.specs.ChainSet.{is_among}
use Rattle.chain_file.specs.View.{chain_names}
use Rattle.chain_file.proofs.tenants.has_tenant.Given as goal

abbrev pub invariant-loop-chain : goal.invariant-loop-chain
invariant-loop-chain l = is_among l.name (chain_names (drop l.chain-index l.chains)) ≡ is_among l.name (chain_names l.chains)
