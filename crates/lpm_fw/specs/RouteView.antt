-- Routes and their faults of the code as those of the definitions.
use Rattle.std.specs.Prelude.{Option, Some, None}
use Rattle.brick_spec.specs.Route as spec
use Rattle.lpm_fw.specs.declared.routes.Route.{Route}
use Rattle.lpm_fw.specs.declared.routes.RouteFault.{RouteFault}
use Rattle.lpm_fw.specs.declared.routes.RouteFault.TheVariants.{SamePrefix, HostBits, NoMemory}

abbrev pub route_view : Route → spec.Route
route_view r = record { to = record { addr = r.to; bits = r.bits }; via = r.via }

-- None where memory ran out
abbrev pub fault_view : RouteFault → Option spec.RouteFault
fault_view (SamePrefix first second) = Some (spec.SamePrefix first second)
fault_view (HostBits row) = Some (spec.HostBits row)
fault_view NoMemory = None
