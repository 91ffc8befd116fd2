-- The kinds of stages of the code as those of the definitions.
use Rattle.chain_spec.specs.StageWalk as walk
use Rattle.stage_text.specs.declared.kinds.Kind.{Kind}
use Rattle.stage_text.specs.declared.kinds.Kind.TheVariants as kind

abbrev pub kind_view : Kind → walk.Kind
kind_view kind.Ttl = walk.TtlKind
kind_view kind.SetTos = walk.SetTosKind
kind_view kind.Only = walk.OnlyKind
kind_view kind.Firewall = walk.FirewallKind
kind_view kind.Route = walk.RouteKind
kind_view kind.Nat = walk.NatKind
kind_view kind.Balance = walk.BalanceKind
kind_view kind.Window = walk.WindowKind
kind_view kind.Scan = walk.ScanKind
