-- What a chain made of a capture.
use Rattle.std.specs.Prelude.{◌≡◌, ℕ, List, length, map}
use Rattle.brick_spec.specs.Capture.{Contents}
use Rattle.flow_spec.specs.Answer.{counts_of}
use Rattle.chain_spec.specs.ChainSet.{Chain}
use Rattle.tenant_spec.specs.Records.{accepted_items}
use Rattle.tenant_spec.specs.Tenant.{outputs_made, reasons}
use Rattle.work_core.specs.Result.{items_view}
use Rattle.work_core.specs.declared.job.TenantDone.{TenantDone}

-- what is made is the tenant meaning, where these records are refused
pub record IsMade (chain : Chain) (refused : List ℕ) (c : Contents) (d : TenantDone) : Type 0 where
  pub accepted : d.accepted ≡ length (accepted_items chain refused c)
  pub refused_are : d.refused ≡ refused
  pub drops : d.drops ≡ counts_of (reasons chain refused c)
  pub outputs : map items_view d.outputs.items ≡ outputs_made chain refused c
