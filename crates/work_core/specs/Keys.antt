-- Chains keep the keys of flows.
use Rattle.chain_spec.specs.ChainSet.{Chain}
use Rattle.flow_spec.specs.Plan as plans
use Rattle.flow_work.specs.Log.{OwnsKeys}
use Rattle.tenant_spec.specs.ChainPlan.{plan_of}

-- What a chain makes of a flow has keys of that flow: of its records, or the one behind all records that is its own.
abbrev pub ChainsOwnKeys : Type 0
ChainsOwnKeys = (chain : Chain) → OwnsKeys (plans.flow_meaning (plan_of chain))
