-- The rows of a table of routes: none has more than 32 bits, and its first fault.
use Rattle.std.proofs.Common.{◌≡◌, ◌≢◌, ◌∙◌, ◌<◌, ◌≤◌, ℕ, zero, suc, List, [], ◌∷◌, ◌++◌, take, Option, Some, None, MatchOption, option_map, Ok, Err, Result, inl, inr, refl, sym, ap, subst, arith}
use Rattle.std.specs.Prelude.{IfSome}
use Rattle.std.specs.List.{slice_get}
use Rattle.std.proofs.lemmas.Bool.{cases_order}
use Rattle.brick_spec.specs.Route as spec
use Rattle.brick_spec.specs.Route.{RouteFault, fault_at, AreRight, IsFirstFault, first_fault}
use Rattle.brick_spec.proofs.Routes.{first_fault_is_first}
use Rattle.chain_spec.specs.ChainFault as faults
use Rattle.chain_spec.specs.StageWalk.{sound_rows}
use Rattle.lpm_fw.specs.Scan.{AreShort}
use Rattle.lpm_fw.specs.RouteView.{fault_view}
use Rattle.lpm_fw.specs.declared.routes.Route.{Route}
use Rattle.lpm_fw.specs.declared.routes.RouteFault as code
use Rattle.lpm_fw.specs.declared.routes.RouteFault.TheVariants.{SamePrefix, HostBits, NoMemory}

some_is : {A : Type 0} (x y : A) → Some x ≡ Some y → x ≡ y
some_is x y e = ap (λ o. elim o [ None ↦ x | Some z ↦ z ]) e

pub short_push : (rows : List Route) (row : Route) → AreShort rows → row.bits ≤ 32 → AreShort (rows ++ row ∷ [])
short_push [] row all here zero other at = subst (λ (r : Route). r.bits ≤ 32) (some_is row other at) here
short_push [] row all here (suc k) other at = cc
short_push (r ∷ rows) row all here zero other at = all zero other at
short_push (r ∷ rows) row all here (suc k) other at = short_push rows row (λ j s is. all (suc j) s is) here k other at

-- THE FIRST FAULT is one

none_some : {A : Type 0} (o : Option A) (x : A) → o ≡ None → o ≡ Some x → ⊥
none_some o x e f = let g = sym e ∙ f in cc

not_right : (rows : List spec.Route) (f : RouteFault) → AreRight rows → IsFirstFault rows f → ⊥
not_right rows f right is = none_some (fault_at (take is.r rows) is.row is.r) f (right is.r is.row is.there) is.here

same_place : (rows : List spec.Route) (f g : RouteFault) (r s : ℕ) (row other : spec.Route) → r ≡ s → slice_get rows r ≡ Some row → slice_get rows s ≡ Some other
    → fault_at (take r rows) row r ≡ Some f → fault_at (take s rows) other s ≡ Some g → f ≡ g
same_place rows f g r s row other e at is here there =
    subst (λ i. slice_get rows i ≡ Some other → fault_at (take i rows) other i ≡ Some g → f ≡ g) e
    (λ is there. some_is f g (sym here ∙ ap (λ x. fault_at (take r rows) x r) (some_is row other (sym at ∙ is)) ∙ there)) is there

same_fault : (rows : List spec.Route) (f g : RouteFault) → IsFirstFault rows f → IsFirstFault rows g → f ≡ g
same_fault rows f g h k = elim (cases_order h.r k.r) [
  | inl same ↦ same_place rows f g h.r k.r h.row k.row same h.there k.there h.here k.here
  | inr order ↦ elim order [
    | inl less ↦ absurd (none_some (fault_at (take h.r rows) h.row h.r) f (k.before h.r h.row less h.there) h.here)
    | inr more ↦ absurd (none_some (fault_at (take k.r rows) k.row k.r) g (h.before k.r k.row more k.there) k.here)
  ]
]

pub first_fault_is : (rows : List spec.Route) (f : RouteFault) → IsFirstFault rows f → first_fault rows ≡ Some f
first_fault_is rows f is = by (first_fault rows) (first_fault_is_first rows)
  where
    by : (o : Option RouteFault) → MatchOption o (AreRight rows) (IsFirstFault rows) → o ≡ Some f
    by None right = absurd (not_right rows f right is)
    by (Some g) first = ap Some (same_fault rows g f first is)

pub no_first_fault : (rows : List spec.Route) → AreRight rows → first_fault rows ≡ None
no_first_fault rows right = by (first_fault rows) (first_fault_is_first rows)
  where
    by : (o : Option RouteFault) → MatchOption o (AreRight rows) (IsFirstFault rows) → o ≡ None
    by None h = refl
    by (Some g) first = absurd (not_right rows g right first)

-- what a table of these rows is, and how it fails

pub rows_sound : (place : ℕ) (rows : List spec.Route) → AreRight rows → sound_rows place rows (first_fault rows) ≡ Ok rows
rows_sound place rows right = ap (sound_rows place rows) (no_first_fault rows right)

pub rows_fail : (place : ℕ) (rows : List spec.Route) (o : Option RouteFault) → IfSome o (IsFirstFault rows)
    → IfSome (option_map (faults.Route place) o) (λ f. sound_rows place rows (first_fault rows) ≡ Err f)
rows_fail place rows None h = tt
rows_fail place rows (Some f) h = ap (sound_rows place rows) (first_fault_is rows f h)

-- a fault of the code
pub route_fails : (place : ℕ) (rows : List spec.Route) (fault : code.RouteFault) → (fault ≢ NoMemory → IfSome (fault_view fault) (IsFirstFault rows))
    → IfSome (option_map (faults.Route place) (fault_view fault)) (λ f. sound_rows place rows (first_fault rows) ≡ Err f)
route_fails place rows (SamePrefix first second) h = rows_fail place rows (Some (spec.SamePrefix first second)) (h (λ e. cc))
route_fails place rows (HostBits row) h = rows_fail place rows (Some (spec.HostBits row)) (h (λ e. cc))
route_fails place rows NoMemory h = tt
