-- The row that a scan finds is the chosen one, and right rows have only one.
use Rattle.std.proofs.Common.{◌≡◌, ◌∙◌, ℕ, ◌<◌, Bool, true, false, ◌&&◌, not, nat_lt, refl, sym, ap, arith, List, Option, Some, None, length, map, IfSome, inl, inr, ◌≤◌}
use Rattle.std.proofs.lemmas.Bool.{cases_lt, and_from, le-ltb, lt-ltb}
use Rattle.std.specs.List.{slice_get, list_any}
use Rattle.std.proofs.lemmas.List.Folds.{list_any_at}
use Rattle.std.proofs.lemmas.Option.{slice_get_within, get_or_from_slice_get}
use Rattle.brick_spec.specs.Route as spec
use Rattle.lpm_fw.specs.declared.routes.Route.{Route}
use Rattle.lpm_fw.specs.RouteView.{route_view}
use Rattle.lpm_fw.specs.Scan.{Best, IsBest}
use Rattle.lpm_fw.specs.Cells.{Finds, IsLongest}
use Rattle.lpm_fw.proofs.Unique.{same_twice}
use Rattle.brick_spec.proofs.Positions.{mapped_get, get_mapped, position_at, position_none, any_none}

-- a row that leads to the address and is longer than another
abbrev is_longer : ℕ → ℕ → spec.Route → Bool
is_longer addr bits other = spec.leads_to addr other && nat_lt bits other.to.bits

and_false : (a b : Bool) → (a ≡ true → b ≡ false) → (a && b) ≡ false
and_false true b h = h refl
and_false false b h = refl

-- no containing prefix is longer than that of the best row
best_is_longest : (rows : List Route) (addr r : ℕ) (b : IsBest rows addr (length rows) r) → spec.is_longest (map route_view rows) addr (route_view b.row) ≡ true
best_is_longest rows addr r b =
    and_from _ _ b.here (ap not (any_none (is_longer addr b.row.bits) (map route_view rows) (λ k y at.
    let found = mapped_get route_view rows k y at in
    and_false _ _ (λ leads. le-ltb b.row.bits y.to.bits (
    let e = found.2 in
    let bits : found.0.bits ≡ y.to.bits = ap (λ (x : spec.Route). x.to.bits) e in
    let most = b.longest k found.0 (slice_get_within rows k found.0 found.1) found.1 (ap (spec.leads_to addr) e ∙ leads) in
    omega arith)))))

-- an earlier row is shorter than the best one, which contains the address
earlier_is_not : (rows : List Route) (addr r : ℕ) (b : IsBest rows addr (length rows) r) (k : ℕ) (y : Route) → k < r → slice_get rows k ≡ Some y
    → spec.is_longest (map route_view rows) addr (route_view y) ≡ false
earlier_is_not rows addr r b k y before at =
    and_false _ _ (λ leads. ap not (list_any_at (is_longer addr y.bits) (map route_view rows) r (route_view b.row)
    (slice_get_within (map route_view rows) r (route_view b.row) (get_mapped route_view rows r b.row b.there))
    (ap (is_longer addr y.bits) (get_or_from_slice_get (map route_view rows) r (route_view b.row) (route_view b.row) (get_mapped route_view rows r b.row b.there))
    ∙ and_from _ _ b.here (lt-ltb y.bits b.row.bits (b.earliest k y before at leads)))))

pub chosen : (rows : List Route) (addr : ℕ) (best : Option ℕ) → Best rows addr (length rows) best → best ≡ spec.route_of (map route_view rows) addr
chosen rows addr None none =
    sym (position_none (spec.is_longest (map route_view rows) addr) (map route_view rows) (λ k y at.
    let found = mapped_get route_view rows k y at in
    let fails : spec.leads_to addr y ≡ false = ap (spec.leads_to addr) (sym found.2) ∙ none k found.0 (slice_get_within rows k found.0 found.1) found.1 in
    ap (λ c. c && not (list_any (is_longer addr y.to.bits) (map route_view rows))) fails))
chosen rows addr (Some r) b =
    sym (position_at (spec.is_longest (map route_view rows) addr) (map route_view rows) r (route_view b.row) (get_mapped route_view rows r b.row b.there)
    (best_is_longest rows addr r b)
    (λ k y before at. let found = mapped_get route_view rows k y at in
    ap (spec.is_longest (map route_view rows) addr) (sym found.2) ∙ earlier_is_not rows addr r b k found.0 before found.1))

-- the longest row that contains the address is the chosen one
pub chosen_longest : (rows : List Route) (addr : ℕ) (best : Option ℕ) → spec.AreRight (map route_view rows) → Finds rows addr best → best ≡ spec.route_of (map route_view rows) addr
chosen_longest rows addr None right none = chosen rows addr None (λ k other less at. none k other at)
chosen_longest rows addr (Some r) right b = chosen rows addr (Some r) (record {
  row = b.row;
  there = b.there;
  below = slice_get_within rows r b.row b.there;
  here = b.here;
  longest = λ k other less at leads. b.longest k other at leads;
  earliest = λ k other less at leads. elim (cases_lt other.bits b.row.bits) [
    | inl shorter ↦ shorter
    | inr not_shorter ↦ absurd (
        let most = b.longest k other at leads in
        let bits : b.row.bits ≡ other.bits = omega arith in
        same_twice (map route_view rows) addr k r (route_view other) (route_view b.row) right (get_mapped route_view rows k other at) (get_mapped route_view rows r b.row b.there) leads b.here bits less)
  ];
})

pub longest_within : (rows : List Route) (addr : ℕ) (best : Option ℕ) → Finds rows addr best → IfSome best (λ r. r < length rows)
longest_within rows addr None b = tt
longest_within rows addr (Some r) b = slice_get_within rows r b.row b.there
