-- A reason of the code as one of the definitions.
use Rattle.brick_spec.specs.Stage as stage
use Rattle.brick_base.specs.declared.drops.Reason.{Reason}
use Rattle.brick_base.specs.declared.drops.Reason.TheVariants.{Big, Unparsed, Fire, NoRoute, Ttl, NatFull, Filter}
use Rattle.brick_base.specs.declared.drops.Reason.TheVariants.{NoGroup, Reach}

abbrev pub reason_view : Reason → stage.Reason
reason_view Big = stage.Big
reason_view Unparsed = stage.Unparsed
reason_view Fire = stage.Fire
reason_view NoRoute = stage.NoRoute
reason_view Ttl = stage.Ttl
reason_view NatFull = stage.NatFull
reason_view Filter = stage.Filter
reason_view NoGroup = stage.NoGroup
reason_view Reach = stage.Reach
