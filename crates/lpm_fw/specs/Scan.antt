-- A scan of the rows of a table.
use Rattle.std.specs.Prelude.{ℕ, ◌≡◌, ◌<◌, ◌≤◌, false, true, Option, Some, None, List, length, map}
use Rattle.std.specs.List.{slice_get}
use Rattle.brick_spec.specs.Route as spec
use Rattle.lpm_fw.specs.declared.routes.Route.{Route}
use Rattle.lpm_fw.specs.declared.routes.RouteFault.{RouteFault}
use Rattle.lpm_fw.specs.RouteView.{route_view, fault_view}

-- no prefix has more than 32 bits
abbrev pub AreShort : List Route → Type 0
AreShort rows = (k : ℕ) (row : Route) → slice_get rows k ≡ Some row → row.bits ≤ 32

-- what is true of each table
pub record AreRows (rows : List Route) : Type 0 where
  pub few : length rows ≤ 4096
  pub short : AreShort rows
  pub right : spec.AreRight (map route_view rows)

-- Of the first n rows, row r is the earliest of the longest that contain the address.
pub record IsBest (rows : List Route) (addr n r : ℕ) : Type 0 where
  pub row : Route
  pub there : slice_get rows r ≡ Some row
  pub below : r < n
  pub here : spec.leads_to addr (route_view row) ≡ true
  pub longest : (k : ℕ) (other : Route) → k < n → slice_get rows k ≡ Some other
      → spec.leads_to addr (route_view other) ≡ true → other.bits ≤ row.bits
  pub earliest : (k : ℕ) (other : Route) → k < r → slice_get rows k ≡ Some other
      → spec.leads_to addr (route_view other) ≡ true → other.bits < row.bits

abbrev pub Best : List Route → ℕ → ℕ → Option ℕ → Type 0
Best rows addr n None =
    (k : ℕ) (other : Route) → k < n → slice_get rows k ≡ Some other → spec.leads_to addr (route_view other) ≡ false
Best rows addr n (Some r) = IsBest rows addr n r

-- the fault of row r behind these rows, where it has one
abbrev pub ScannedFault : List Route → Route → ℕ → Option RouteFault → Type 0
ScannedFault before row r None = spec.fault_at (map route_view before) (route_view row) r ≡ None
ScannedFault before row r (Some fault) = spec.fault_at (map route_view before) (route_view row) r ≡ fault_view fault
