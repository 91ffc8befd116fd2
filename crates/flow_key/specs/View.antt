-- Plans, ends and keys of the code as those of the definitions.
use Rattle.brick_spec.specs.FlowClass as spec
use Rattle.brick_base.specs.PrefixView.{prefix_view}
use Rattle.flow_key.specs.declared.plan.NatPlan.{NatPlan}
use Rattle.flow_key.specs.declared.key.End.{End}
use Rattle.flow_key.specs.declared.key.Key.{Key}

abbrev pub plan_view : NatPlan → spec.NatPlan
plan_view p = record { inside = prefix_view p.inside; outside = p.outside; base = p.base; ports = p.ports }

abbrev pub end_view : End → spec.End
end_view e = record { address = e.address; port = e.port }

abbrev pub key_view : Key → spec.Key
key_view k = record { proto = k.proto; low = end_view k.low; high = end_view k.high }
