-- The first row of each prefix.
use Rattle.std.specs.Prelude.{ℕ, ◌≡◌, List, map}
use Rattle.std.specs.Ordering.{nat_cmp, ordering_then}
use Rattle.std.specs.declared.cmp.Ordering.{Ordering}
use Rattle.std.specs.List.{position}
use Rattle.std.specs.BTreeMap.{BTreeMap, get}
use Rattle.brick_spec.specs.Match as match
use Rattle.brick_spec.specs.Route as spec
use Rattle.lpm_fw.specs.declared.routes.Route.{Route}
use Rattle.lpm_fw.specs.declared.prefix.Prefix.{Prefix}
use Rattle.lpm_fw.specs.RouteView.{route_view}

abbrev pub prefix_view : Prefix → match.Prefix
prefix_view p = record { addr = p.to; bits = p.bits }

abbrev pub prefix_cmp : Prefix → Prefix → Ordering
prefix_cmp a b = ordering_then (nat_cmp a.to b.to) (nat_cmp a.bits b.bits)

-- of each prefix, the first of these rows that has it
abbrev pub AreFirsts : List Route → BTreeMap Prefix ℕ → Type 0
AreFirsts before firsts =
    (q : Prefix) → get prefix_cmp firsts q ≡ position (spec.is_same_prefix (prefix_view q)) (map route_view before)
