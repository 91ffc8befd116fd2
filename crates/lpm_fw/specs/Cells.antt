-- A table of cells over the ranges of addresses.
use Rattle.std.specs.Prelude.{ℕ, ◌≡◌, ◌<◌, ◌≤◌, ◌+◌, ◌-◌, ◌*◌, ◌/◌, ◌^◌, false, true, zero, suc, nat_lt, MatchBool}
use Rattle.std.specs.Prelude.{Option, Some, None, IfSome, List, [], length, MatchOption, ◌⊎◌, ◌==◌}
use Rattle.std.specs.List.{slice_get, slice_index}
use Rattle.brick_spec.specs.Route as spec
use Rattle.lpm_fw.specs.declared.routes.Route.{Route}
use Rattle.lpm_fw.specs.Scan.{AreRows}
use Rattle.lpm_fw.specs.RouteView.{route_view}
use Rattle.lpm_fw.specs.Parts.{rows_in}

-- row r is the longest of those that contain the address
pub record IsLongest (rows : List Route) (addr r : ℕ) : Type 0 where
  pub row : Route
  pub there : slice_get rows r ≡ Some row
  pub here : spec.leads_to addr (route_view row) ≡ true
  pub longest : (k : ℕ) (other : Route) → slice_get rows k ≡ Some other → spec.leads_to addr (route_view other) ≡ true
      → other.bits ≤ row.bits

abbrev pub Finds : List Route → ℕ → Option ℕ → Type 0
Finds rows addr None =
    (k : ℕ) (other : Route) → slice_get rows k ≡ Some other → spec.leads_to addr (route_view other) ≡ false
Finds rows addr (Some r) = IsLongest rows addr r

abbrev pub row_of : ℕ → Option ℕ
row_of zero = None
row_of (suc r) = Some r

-- The cell of the range a of 2 ^ w addresses has the row of the longest prefix that contains each of them: so none that
-- is smaller than the range lies inside.
pub record IsRowCell (rows : List Route) (w a cell : ℕ) : Type 0 where
  pub found : (addr : ℕ) → addr / 2 ^ w ≡ a → Finds rows addr (row_of cell)

-- Such a cell; or, of a range of 256 or more addresses, a block, of which the 256 cells divide the range in order.
abbrev pub IsCell : List Route → List (List ℕ) → ℕ → ℕ → ℕ → Type 0
IsCell rows blocks zero a cell = IsRowCell rows 0 a cell
IsCell rows blocks (suc level) a cell = MatchBool (nat_lt cell 4097) (IsRowCell rows (8 * suc level) a cell)
    ((block : List ℕ) × (slice_get blocks (cell - 4097) ≡ Some block)
    × ((i : ℕ) → i < 256 → IsCell rows blocks level (a * 256 + i) (slice_index block i)))

-- the cells of the first n ranges of 65,536 addresses; a table has all 65,536 of them
pub record AreCells (rows : List Route) (root : List ℕ) (blocks : List (List ℕ)) (n : ℕ) : Type 0 where
  pub long : length root ≡ n
  pub each : (a : ℕ) → a < n → IsCell rows blocks 2 a (slice_index root a)

-- what is true of each table: where there are cells, they are those of the rows
pub record IsTable (rows : List Route) (root : List ℕ) (blocks : List (List ℕ)) : Type 0 where
  pub are : AreRows rows
  pub cells : (length root == 0) ≡ false → AreCells rows root blocks 65536

-- BUILDING

-- a row leads to each address of the range a of 2 ^ w addresses
abbrev pub LeadsToAll : ℕ → ℕ → Route → Type 0
LeadsToAll w a row = (addr : ℕ) → addr / 2 ^ w ≡ a → spec.leads_to addr (route_view row) ≡ true

-- and to none of them
abbrev pub LeadsToNone : ℕ → ℕ → Route → Type 0
LeadsToNone w a row = (addr : ℕ) → addr / 2 ^ w ≡ a → spec.leads_to addr (route_view row) ≡ false

-- the best row, where there is one, leads to each address of the range
abbrev pub BestLeads : List Route → ℕ → ℕ → Option ℕ → Type 0
BestLeads rows w a None = Unit {0}
BestLeads rows w a (Some r) = (row : Route) × (slice_get rows r ≡ Some row) × LeadsToAll w a row

-- and it has so many bits at least
abbrev pub IsAsLong : List Route → ℕ → Option ℕ → Type 0
IsAsLong rows bits None = ⊥
IsAsLong rows bits (Some r) = (row : Route) × (slice_get rows r ≡ Some row) × (bits ≤ row.bits)

abbrev pub IsAmong : ℕ → List ℕ → ℕ → Type 0
IsAmong k list from = (j : ℕ) × (from ≤ j) × (slice_get list j ≡ Some k)

-- row k has an address of the range, and no more addresses than it
pub record IsInside (rows : List Route) (w a k : ℕ) : Type 0 where
  pub within : k < length rows
  pub few : (row : Route) → slice_get rows k ≡ Some row → 32 ≤ row.bits + w
  pub here : (row : Route) → slice_get rows k ≡ Some row → row.to < 2 ^ 32 → row.to / 2 ^ w ≡ a

-- Each row that leads to an address of the range is among some rows from a place on, or among those inside, or no
-- longer than the best.
pub record AreSorted (rows : List Route) (w a : ℕ) (list : List ℕ) (from : ℕ) (inside : List ℕ)
    (best : Option ℕ) : Type 0 where
  pub leads : BestLeads rows w a best
  pub within : (j k : ℕ) → slice_get inside j ≡ Some k → IsInside rows w a k
  pub all : (addr k : ℕ) (other : Route) → addr / 2 ^ w ≡ a → slice_get rows k ≡ Some other
      → spec.leads_to addr (route_view other) ≡ true
      → IsAmong k list from ⊎ (IsAmong k inside 0 ⊎ IsAsLong rows other.bits best)

-- the rows inside some range of 2 ^ w addresses, and the longest row round it
abbrev pub AreOfRange : List Route → ℕ → List ℕ → Option ℕ → Type 0
AreOfRange rows w inside best = (a : ℕ) × AreSorted rows w a [] 0 inside best

-- the longer one of the best row and row k
pub record IsLonger (rows : List Route) (best : Option ℕ) (k : ℕ) (result : Option ℕ) : Type 0 where
  pub leads : (w a : ℕ) → BestLeads rows w a best → ((row : Route) → slice_get rows k ≡ Some row → LeadsToAll w a row)
      → BestLeads rows w a result
  pub kept : (bits : ℕ) → IsAsLong rows bits best → IsAsLong rows bits result
  pub long : (row : Route) → slice_get rows k ≡ Some row → IsAsLong rows row.bits result

-- 256 cells, each with a row or none
pub record HaveRows (rows : List Route) (cells : List ℕ) : Type 0 where
  pub long : length cells ≡ 256
  pub each : (i : ℕ) → i < 256 → IfSome (row_of (slice_index cells i)) (λ r. r < length rows)

-- Of each of the 256 parts of the range a, the cell has the longest row that contains the part, of the rows before a
-- place, and the others of them that have an address of the part lie inside it.
abbrev pub AreDivided : List Route → ℕ → ℕ → List ℕ → ℕ → List ℕ → List (List ℕ) → Type 0
AreDivided rows w a list from cells inside =
    (i : ℕ) → i < 256 → AreSorted rows w (a * 256 + i) list from (rows_in inside i) (row_of (slice_index cells i))

-- some blocks and more behind them
abbrev pub AreMore : List (List ℕ) → List (List ℕ) → Type 0
AreMore old new = (k : ℕ) (block : List ℕ) → slice_get old k ≡ Some block → slice_get new k ≡ Some block

-- the first n cells of the block of a range
abbrev pub AreParts : List Route → List (List ℕ) → ℕ → ℕ → List ℕ → ℕ → Type 0
AreParts rows blocks level a block n = (i : ℕ) → i < n → IsCell rows blocks level (a * 256 + i) (slice_index block i)
