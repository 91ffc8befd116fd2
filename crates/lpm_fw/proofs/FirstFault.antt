-- The first fault of a table, by a scan of its rows.
use Rattle.std.proofs.Common.{◌≡◌, ◌∙◌, ℕ, ◌<◌, ◌+◌, refl, sym, ap, subst, arith, List, map, take, length, ◌≤◌, Option, Some, None, IfSome, MatchOption, is_some, true, false, inl, inr}
use Rattle.std.specs.List.{slice_get}
use Rattle.std.proofs.lemmas.Bool.{cases_lt}
use Rattle.std.proofs.lemmas.List.{take-map}
use Rattle.std.proofs.lemmas.Option.{slice_get_within}
use Rattle.brick_spec.specs.Route as spec
use Rattle.lpm_fw.specs.declared.routes.Route.{Route}
use Rattle.lpm_fw.specs.declared.routes.RouteFault.{RouteFault}
use Rattle.lpm_fw.specs.RouteView.{route_view, fault_view}
use Rattle.lpm_fw.specs.Scan.{ScannedFault}
use Rattle.brick_spec.proofs.Positions.{mapped_get, get_mapped}

-- the rows before r have no fault
abbrev pub RightBefore : List Route → ℕ → Type 0
RightBefore rows r = (k : ℕ) (row : Route) → k < r → slice_get rows k ≡ Some row → spec.fault_at (map route_view (take k rows)) (route_view row) k ≡ None

-- the same of the rows as the definitions speak of them
pub right_mapped : (rows : List Route) (k : ℕ) (other : spec.Route) → slice_get (map route_view rows) k ≡ Some other
    → ((row : Route) → slice_get rows k ≡ Some row → spec.fault_at (map route_view (take k rows)) (route_view row) k ≡ None)
    → spec.fault_at (take k (map route_view rows)) other k ≡ None
right_mapped rows k other at h =
    let found = mapped_get route_view rows k other at in
    ap (λ before. spec.fault_at before other k) (take-map route_view k rows)
    ∙ ap (λ row. spec.fault_at (map route_view (take k rows)) row k) (sym found.2)
    ∙ h found.0 found.1

pub first_fault_is : (rows : List Route) (r : ℕ) (row : Route) (fault : RouteFault) (f : spec.RouteFault) → slice_get rows r ≡ Some row → RightBefore rows r
    → fault_view fault ≡ Some f → spec.fault_at (map route_view (take r rows)) (route_view row) r ≡ fault_view fault → spec.IsFirstFault (map route_view rows) f
first_fault_is rows r row fault f at right view here = record {
  r = r;
  row = route_view row;
  there = get_mapped route_view rows r row at;
  here = ap (λ before. spec.fault_at before (route_view row) r) (take-map route_view r rows) ∙ here ∙ view;
  before = λ k other less at_k. right_mapped rows k other at_k (λ row at_row. right k row less at_row);
}

-- a row with a fault, unless memory ran out
pub fault_found : (rows : List Route) (r : ℕ) (row : Route) (fault : RouteFault) → slice_get rows r ≡ Some row → RightBefore rows r
    → IfSome (fault_view fault) (λ f. spec.fault_at (map route_view (take r rows)) (route_view row) r ≡ Some f) → IfSome (fault_view fault) (spec.IsFirstFault (map route_view rows))
fault_found rows r row fault at right = go (fault_view fault) refl
  where
    go : (o : Option spec.RouteFault) → fault_view fault ≡ o → IfSome o (λ f. spec.fault_at (map route_view (take r rows)) (route_view row) r ≡ Some f) → IfSome o (spec.IsFirstFault (map route_view rows))
    go None e here = tt
    go (Some f) e here = first_fault_is rows r row fault f at right e (here ∙ sym e)

-- a row without one
pub right_more : (rows : List Route) (r : ℕ) (row : Route) → slice_get rows r ≡ Some row → RightBefore rows r
    → spec.fault_at (map route_view (take r rows)) (route_view row) r ≡ None → RightBefore rows (r + 1)
right_more rows r row at right none k other less at_k =
    elim (cases_lt k r) [
      | inl before ↦ right k other before at_k
      | inr past ↦
          let e : r ≡ k = omega arith in
          let at_r : slice_get rows r ≡ Some other = ap (slice_get rows) e ∙ at_k in
          let both : Some row ≡ Some other = sym at ∙ at_r in
          let same : row ≡ other = cc in
          subst (λ (n : ℕ). spec.fault_at (map route_view (take n rows)) (route_view other) n ≡ None) e
          (subst (λ (x : Route). spec.fault_at (map route_view (take r rows)) (route_view x) r ≡ None) same none)
    ]

-- the whole table
pub all_right : (rows : List Route) (r : ℕ) → RightBefore rows r → length rows ≤ r → spec.AreRight (map route_view rows)
all_right rows r right past k other at = right_mapped rows k other at (λ row at_row. right k row (let w = slice_get_within rows k row at_row in omega arith) at_row)
