-- What is true of each chain of an accepted chain file.
use Rattle.std.proofs.Common.{◌≡◌, ℕ, ◌<◌, Bool, true, false, not, ◌&&◌, ◌||◌, cond, List, [], ◌∷◌, ◌++◌, length, map, nat_eq, nat_lt, min, is_some, slice_index_or, refl, subst, arith, codes, zero, suc, ◌+◌}
use Rattle.std.specs.Prelude.{Result, Ok, Err, IsTrue}
use Rattle.std.specs.List.{AllByRecursion}
use Rattle.toml.specs.Data.{Data, Items, no_items, item, Members, get_member, as_array}
use Rattle.chain_spec.specs.ChainFault.{ChainFault, Range, Missing, SecondWindow, TooManyTenants, ◌>>=◌, or_fault}
use Rattle.chain_spec.specs.ChainSet.{Chain, has_nat, has_one_window, has_plan_for_nat, chain_of}
use Rattle.chain_spec.specs.Fields.{each_after, required, table_in, known, number_in, count}
use Rattle.chain_spec.specs.ChainWalk.{tenant_at, tenant_values, tenant_row, tenant_name, tenant_capture, tenant_stages, tenant_groups, settings_in, nat_at, fits, top, top_row, last_version, most_tenants, tenants_in, apart, tree, read_chains}
use Rattle.chain_laws.specs.Accepted.{IsAccepted}

abbrev pub Read : Type 0 → Type 0
Read A = Result A ChainFault

-- what a reading that goes on gave
pub ok_then : {A B : Type 0} (r : Read A) (f : A → Read B) (y : B) → (r >>= f) ≡ Ok y → (x : A) × (r ≡ Ok x) × (f x ≡ Ok y)
ok_then (Ok x) f y e = (x, refl, e)
ok_then (Err g) f y e = cc

pub same_ok : {A : Type 0} (x y : A) → ◌≡◌ {A = Read A} (Ok x) (Ok y) → x ≡ y
same_ok x y e = cc

abbrev pub DoesFit : Chain → Type 0
DoesFit chain = IsTrue (has_plan_for_nat chain) × IsTrue (has_one_window chain)

by_tests : (n o w : Bool) (f g : ChainFault) (x y : Chain) → cond (n && not o) (Err f) (cond w (Ok x) (Err g)) ≡ Ok y → (x ≡ y) × ((not n || o) ≡ true) × (w ≡ true)
by_tests false o true f g x y e = (same_ok x y e, refl, refl)
by_tests false o false f g x y e = cc
by_tests true true true f g x y e = (same_ok x y e, refl, refl)
by_tests true true false f g x y e = cc
by_tests true false w f g x y e = cc

pub fits_fit : (place : ℕ) (x y : Chain) → fits place x ≡ Ok y → DoesFit y
unfolding fits
fits_fit place x y e =
    let t = by_tests (has_nat x) (is_some x.nat) (has_one_window x) (Missing place (codes "nat")) (SecondWindow place) x y e in
    subst DoesFit t.0 (t.1, t.2)

pub fits_same : (place : ℕ) (x y : Chain) → fits place x ≡ Ok y → x ≡ y
unfolding fits
fits_same place x y e = (by_tests (has_nat x) (is_some x.nat) (has_one_window x) (Missing place (codes "nat")) (SecondWindow place) x y e).0

tenant_fits : (version : ℕ) (before : List Chain) (d : Data) (c : Chain) → tenant_at version before d ≡ Ok c → DoesFit c
unfolding tenant_at tenant_values
tenant_fits version before d c e =
    let place : ℕ = length before + 1 in
    let earlier : List (List ℕ) = map (λ x. x.name) before in
    let a = ok_then (table_in 0 (codes "tenant") d) (tenant_values version place earlier) c e in
    let b = ok_then (known place tenant_row a.0) _ c a.2 in
    let n = ok_then (tenant_name place earlier a.0) _ c b.2 in
    let p = ok_then (tenant_capture place a.0) _ c n.2 in
    let s = ok_then (settings_in place a.0) _ c p.2 in
    let t = ok_then (nat_at place (get_member (codes "nat") a.0)) _ c s.2 in
    let g = ok_then (tenant_stages place a.0) _ c t.2 in
    let h = ok_then (tenant_groups version place a.0) _ c g.2 in
    fits_fit place (chain_of n.0 p.0 s.0 t.0 g.0 h.0) c h.2

pub past : (b c : Bool) (f g : ChainFault) (r : Read (List Chain)) (y : List Chain) → cond b (Err f) (cond c (Err g) r) ≡ Ok y → r ≡ Ok y
past true c f g r y e = cc
past false true f g r y e = cc
past false false f g r y e = e

-- WHAT IS TRUE OF EACH TENANT is true of each chain

module _ (P : Chain → Type 0) (one : (version : ℕ) (before : List Chain) (d : Data) (c : Chain) → tenant_at version before d ≡ Ok c → P c) where
  all_more : (cs : List Chain) (c : Chain) → AllByRecursion P cs → P c → AllByRecursion P (cs ++ c ∷ [])
  all_more [] c h k = (k, tt)
  all_more (x ∷ xs) c (h, hs) k = (h, all_more xs c hs k)

  each_is : (version : ℕ) (before : List Chain) (ds : Items) (chains : List Chain) → AllByRecursion P before → each_after (tenant_at version) before ds ≡ Ok chains → AllByRecursion P chains
  unfolding each_after
  each_is version before no_items chains h e = subst (AllByRecursion P) (same_ok before chains e) h
  each_is version before (item d ds) chains h e =
      let r = ok_then (tenant_at version before d) (λ x. each_after (tenant_at version) (before ++ x ∷ []) ds) chains e in
      each_is version (before ++ r.0 ∷ []) ds chains (all_more before r.0 h (one version before d r.0 r.1)) r.2

  tenants_are : (version : ℕ) (d : Data) (chains : List Chain) → tenants_in version d ≡ Ok chains → AllByRecursion P chains
  unfolding tenants_in
  tenants_are version d chains e =
      let a = ok_then (or_fault (Range 0 (codes "tenant")) (as_array d)) _ chains e in
      each_is version [] a.0 chains tt (past (nat_eq (count a.0) 0) (nat_lt most_tenants (count a.0)) (Range 0 (codes "tenant")) (TooManyTenants (min (count a.0) 4294967295)) (each_after (tenant_at version) [] a.0) chains a.2)

  top_is : (ms : Members) (chains : List Chain) → top ms ≡ Ok chains → AllByRecursion P chains
  unfolding top
  top_is ms chains e =
      let a = ok_then (known 0 top_row ms) _ chains e in
      let b = ok_then (required 0 (codes "version") ms) _ chains a.2 in
      let v = ok_then (number_in 0 (codes "version") 1 last_version b.0) _ chains b.2 in
      let r = ok_then (required 0 (codes "tenant") ms) _ chains v.2 in
      tenants_are v.0 r.0 chains r.2

  pub read_are : (own out bytes : List ℕ) (chains : List Chain) → read_chains own out bytes ≡ Ok chains → AllByRecursion P chains
  unfolding read_chains
  read_are own out bytes chains e =
      let a = ok_then (tree bytes) (λ ms. top ms >>= λ cs. apart own out cs >>= λ _. Ok cs) chains e in
      let b = ok_then (top a.0) (λ cs. apart own out cs >>= λ _. Ok cs) chains a.2 in
      let c = ok_then (apart own out b.0) (λ _. Ok b.0) chains b.2 in
      subst (AllByRecursion P) (same_ok b.0 chains c.2) (top_is a.0 b.0 b.1)

  at_place : (cs : List Chain) (k : ℕ) (d : Chain) → AllByRecursion P cs → k < length cs → P (slice_index_or cs k d)
  at_place [] k d h l = absurd (omega (arith, l))
  at_place (c ∷ cs) zero d (h, hs) l = h
  at_place (c ∷ cs) (suc k) d (h, hs) l = at_place cs k d hs (omega (arith, l))

  pub accepted_is : (chain : Chain) → IsAccepted chain → P chain
  accepted_is chain h = subst P h.one_of.2 (at_place h.chains h.one_of.0 chain (read_are h.own h.out h.bytes h.chains h.read) h.one_of.1)

pub accepted_fits : (chain : Chain) → IsAccepted chain → DoesFit chain
accepted_fits chain h = accepted_is DoesFit tenant_fits chain h
