-- A row more, in the map of the first rows.
use Rattle.std.proofs.Common.{◌≡◌, ℕ, ◌+◌, ◌<◌, ◌≤◌, Bool, true, false, cond, ltb, eqb, nat_eq, ◌&&◌, refl, sym, ◌∙◌, ap, subst, not, arith, ◌⊎◌, ⊎_elim, inl, inr, List, [], ◌∷◌, ◌++◌, length, map, Option, Some, None}
use Rattle.std.specs.List.{position, position_or_len}
use Rattle.std.specs.Option.{option_or}
use Rattle.std.specs.BTreeMap.{BTreeMap, get, is_at}
use Rattle.std.specs.Ordering.{is_eq, ordering_then, nat_cmp}
use Rattle.std.specs.declared.cmp.Ordering.{Ordering}
use Rattle.std.specs.declared.cmp.Ordering.TheVariants.{Less, Equal, Greater}
use Rattle.std.proofs.lemmas.List.{length_push, length-map, map-append}
use Rattle.std.proofs.lemmas.List.Sums.{prefix_len-le-length}
use Rattle.std.proofs.lemmas.List.Folds.{position_or_len_push}
use Rattle.std.proofs.lemmas.Bool.{cases_lt, and_parts, eqb-true}
use Rattle.std.proofs.lemmas.Bool.Decides.{nat_tests}
use Rattle.brick_spec.specs.Match as match
use Rattle.brick_spec.specs.Route as spec
use Rattle.brick_spec.proofs.Tests.{option_or-none}
use Rattle.lpm_fw.specs.declared.routes.Route.{Route}
use Rattle.lpm_fw.specs.declared.prefix.Prefix.{Prefix}
use Rattle.lpm_fw.specs.RouteView.{route_view}
use Rattle.lpm_fw.specs.Firsts.{AreFirsts, prefix_view, prefix_cmp}
use Rattle.lpm_fw.specs.Scan.{ScannedFault}
use Rattle.lpm_fw.specs.declared.routes.RouteFault.{RouteFault}

push_numbers : (a n : ℕ) (b : Bool) → a ≤ n → cond {A = Option ℕ} (ltb (cond (eqb a n) (n + cond b 0 1) a) (n + 1)) (Some (cond (eqb a n) (n + cond b 0 1) a)) None ≡ option_or (cond (ltb a n) (Some a) None) (cond b (Some n) None)
push_numbers a n true few = ⊎_elim
    (λ less. let e1 : eqb a n ≡ false = grind (arith, nat_tests) in let e2 : ltb a n ≡ true = grind (arith, nat_tests) in let e3 : ltb a (n + 1) ≡ true = grind (arith, nat_tests) in rw (e1, e2) (rw e3 refl))
    (λ more. let e1 : eqb a n ≡ true = grind (arith, nat_tests) in let e2 : ltb a n ≡ false = grind (arith, nat_tests) in let e0 : n + 0 ≡ n = omega arith in let e3 : ltb n (n + 1) ≡ true = grind (arith, nat_tests) in rw (e1, e2) (rw e0 (rw e3 refl)))
    (cases_lt a n)
push_numbers a n false few = ⊎_elim
    (λ less. let e1 : eqb a n ≡ false = grind (arith, nat_tests) in let e2 : ltb a n ≡ true = grind (arith, nat_tests) in let e3 : ltb a (n + 1) ≡ true = grind (arith, nat_tests) in rw (e1, e2) (rw e3 refl))
    (λ more. let e1 : eqb a n ≡ true = grind (arith, nat_tests) in let e2 : ltb a n ≡ false = grind (arith, nat_tests) in let e3 : ltb (n + 1) (n + 1) ≡ false = grind (arith, nat_tests) in rw (e1, e2) (rw e3 refl))
    (cases_lt a n)

position_push : {X : Type 0} (p : X → Bool) (xs : List X) (y : X) → position p (xs ++ y ∷ []) ≡ option_or (position p xs) (cond (p y) (Some (length xs)) None)
position_push p xs y =
    ap (λ (l : ℕ). cond {A = Option ℕ} (ltb (position_or_len p (xs ++ y ∷ [])) l) (Some (position_or_len p (xs ++ y ∷ []))) None) (length_push xs y)
    ∙ ap (λ (m : ℕ). cond {A = Option ℕ} (ltb m (length xs + 1)) (Some m) None) (position_or_len_push p xs y)
    ∙ push_numbers (position_or_len p xs) (length xs) (p y) (prefix_len-le-length (λ x. not (p x)) xs)

-- the order of keys tells the same ones
is_eq_then : (a b : Ordering) → is_eq (ordering_then a b) ≡ (is_eq a && is_eq b)
is_eq_then Less b = refl
is_eq_then Equal b = refl
is_eq_then Greater b = refl

is_eq_numbers : (a b : ℕ) → is_eq (nat_cmp a b) ≡ eqb b a
is_eq_numbers a b = ⊎_elim
    (λ less. let e1 : ltb a b ≡ true = grind (arith, nat_tests) in let e2 : eqb b a ≡ false = grind (arith, nat_tests) in rw (e1, e2) refl)
    (λ more. let e1 : ltb a b ≡ false = grind (arith, nat_tests) in rw e1 (elim (cases_lt b a) [
      | inl above ↦ let e2 : eqb b a ≡ false = grind (arith, nat_tests) in let e3 : eqb a b ≡ false = grind (arith, nat_tests) in rw (e2, e3) refl
      | inr equal ↦ let e2 : eqb b a ≡ true = grind (arith, nat_tests) in let e3 : eqb a b ≡ true = grind (arith, nat_tests) in rw (e2, e3) refl
    ]))
    (cases_lt a b)

same_key : (a b : Prefix) (row : spec.Route) → prefix_view a ≡ row.to → is_at (prefix_cmp a) b ≡ spec.is_same_prefix (prefix_view b) row
same_key a b row e =
    is_eq_then (nat_cmp a.to b.to) (nat_cmp a.bits b.bits)
    ∙ ap (λ t. t && is_eq (nat_cmp a.bits b.bits)) (is_eq_numbers a.to b.to)
    ∙ ap (λ t. eqb b.to a.to && t) (is_eq_numbers a.bits b.bits)
    ∙ ap (λ (p : match.Prefix). eqb b.to p.addr && eqb b.bits p.bits) e

same_prefixes : (p : match.Prefix) (row : spec.Route) → spec.is_same_prefix p row ≡ true → p ≡ row.to
same_prefixes p row e =
    let h = and_parts (nat_eq p.addr row.to.addr) (nat_eq p.bits row.to.bits) e in
    let f : ℕ → match.Prefix = λ n. record { addr = n; bits = p.bits } in
    let g : ℕ → match.Prefix = λ n. record { addr = row.to.addr; bits = n } in
    ap f (eqb-true p.addr row.to.addr h.0) ∙ ap g (eqb-true p.bits row.to.bits h.1)

-- where nothing is wrong with a row, none before it has its prefix
no_same : (before : List spec.Route) (row : spec.Route) (r : ℕ) → spec.fault_at before row r ≡ None → position (spec.is_same_prefix row.to) before ≡ None
no_same before row r = go (spec.has_host_bits row.to) (position (spec.is_same_prefix row.to) before)
  where
    go : (b : Bool) (o : Option ℕ) → cond b (Some (spec.HostBits r)) (spec.same_prefix_fault o r) ≡ None → o ≡ None
    go true o e = absurd (cc)
    go false None e = refl
    go false (Some first) e = absurd (cc)

first_more : (before : List spec.Route) (row : spec.Route) (p : match.Prefix) (r : ℕ) (found : Option ℕ) → length before ≡ r → position (spec.is_same_prefix row.to) before ≡ None → found ≡ position (spec.is_same_prefix p) before
    → cond (spec.is_same_prefix p row) (Some r) found ≡ position (spec.is_same_prefix p) (before ++ row ∷ [])
first_more before row p r found len none e =
    elim (spec.is_same_prefix p row) as (λ (b : Bool). spec.is_same_prefix p row ≡ b → cond b (Some r) found ≡ position (spec.is_same_prefix p) (before ++ row ∷ [])) [
      | true ↦ λ h. sym (position_push (spec.is_same_prefix p) before row
          ∙ ap (λ (o : Option ℕ). option_or o (cond (spec.is_same_prefix p row) (Some (length before)) None)) (ap (λ (q : match.Prefix). position (spec.is_same_prefix q) before) (same_prefixes p row h) ∙ none)
          ∙ ap (λ (b : Bool). cond {A = Option ℕ} b (Some (length before)) None) h ∙ ap (λ (n : ℕ). Some n) len)
      | false ↦ λ h. e ∙ sym (position_push (spec.is_same_prefix p) before row
          ∙ ap (λ (b : Bool). option_or (position (spec.is_same_prefix p) before) (cond b (Some (length before)) None)) h
          ∙ option_or-none (position (spec.is_same_prefix p) before))
    ] refl

pub firsts_more : (before : List Route) (row : Route) (k : Prefix) (r : ℕ) (firsts firsts' : BTreeMap Prefix ℕ) → prefix_view k ≡ (route_view row).to
    → ((q : Prefix) → get prefix_cmp firsts' q ≡ cond (is_at (prefix_cmp k) q) (Some r) (get prefix_cmp firsts q))
    → AreFirsts before firsts → length before ≡ r → spec.fault_at (map route_view before) (route_view row) r ≡ None → AreFirsts (before ++ row ∷ []) firsts'
firsts_more before row k r firsts firsts' key updates are len right q =
    updates q
    ∙ ap (λ b. cond b (Some r) (get prefix_cmp firsts q)) (same_key k q (route_view row) key)
    ∙ first_more (map route_view before) (route_view row) (prefix_view q) r (get prefix_cmp firsts q) (length-map before route_view ∙ len)
    (no_same (map route_view before) (route_view row) r right) (are q)
    ∙ ap (position (spec.is_same_prefix (prefix_view q))) (sym (map-append route_view before (row ∷ [])))

-- a row at which nothing is found
pub none_found : (before : List Route) (row : Route) (r : ℕ) (o : Option RouteFault) → ScannedFault before row r o → ((fault : RouteFault) → o ≡ Some fault → ⊥)
    → spec.fault_at (map route_view before) (route_view row) r ≡ None
none_found before row r None here none = here
none_found before row r (Some fault) here none = absurd (none fault refl)
