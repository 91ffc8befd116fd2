-- What an accepted chain file says of names: the tenants' are names, no two the same, and no capture is a file of the run.
use Rattle.std.proofs.Common.{◌≡◌, ◌≢◌, ℕ, ◌+◌, Bool, true, false, not, ◌&&◌, ◌||◌, cond, List, [], ◌∷◌, ◌++◌, length, map, Option, Some, None, nat_eq, nat_lt, min, refl, sym, ap, ◌∙◌, subst, codes}
use Rattle.std.specs.Prelude.{Result, Ok, Err}
use Rattle.std.specs.List.{AllByRecursion}
use Rattle.std.specs.Str.{bytes_eq}
use Rattle.std.proofs.lemmas.Slice.Eq.{bytes_eq-Decides}
use Rattle.toml.specs.Data.{Data, Items, no_items, item, Members, get_member, as_array}
use Rattle.brick_spec.specs.Name.{is_name}
use Rattle.chain_spec.specs.ChainFault.{ChainFault, Range, Name, TooManyTenants, ◌>>=◌, or_fault}
use Rattle.chain_spec.specs.ChainSet.{Chain, is_among, chain_of, run_files}
use Rattle.chain_spec.specs.Fields.{each_after, required, text_in, table_in, name_in, known, number_in, count}
use Rattle.chain_spec.specs.ChainWalk.{tenant_at, tenant_values, tenant_row, tenant_name, tenant_capture, tenant_stages, tenant_groups, settings_in, nat_at, fits, top, top_row, last_version, most_tenants, tenants_in, first_taken, none_taken, apart, tree, read_chains}
use Rattle.run_spec.specs.Tenants.{IsApart, AllApart}
use Rattle.run_spec.proofs.Set.{AreNamed, NamesApart, CapturesApart, set_apart}
use Rattle.chain_laws.proofs.Walk.{Read, ok_then, same_ok, past}

-- NAMES

one_name : (x y : Bool) (f : ChainFault) (t name : List ℕ) → cond (x && not y) (Ok t) (Err f) ≡ Ok name → (x ≡ true) × (y ≡ false) × (t ≡ name)
one_name true false f t name e = (refl, refl, same_ok t name e)
one_name true true f t name e = cc
one_name false y f t name e = cc

name_known : (place : ℕ) (earlier : List (List ℕ)) (ms : Members) (name : List ℕ) → tenant_name place earlier ms ≡ Ok name → (is_name name ≡ true) × (is_among name earlier ≡ false)
unfolding tenant_name required name_in
name_known place earlier ms name e =
    let a = ok_then (or_fault _ (get_member (codes "name") ms)) (name_in place (codes "name") earlier) name e in
    let b = ok_then (text_in place (codes "name") a.0) _ name a.2 in
    let k = one_name (is_name b.0) (is_among b.0 earlier) _ b.0 name b.2 in
    (subst (λ n. is_name n ≡ true) k.2 k.0, subst (λ n. is_among n earlier ≡ false) k.2 k.1)

two : (b c : Bool) (f g : ChainFault) (x y : Chain) → cond b (Err f) (cond c (Ok x) (Err g)) ≡ Ok y → x ≡ y
two true c f g x y e = cc
two false true f g x y e = same_ok x y e
two false false f g x y e = cc

fits_same : (place : ℕ) (x y : Chain) → fits place x ≡ Ok y → x ≡ y
unfolding fits
fits_same place x y e = two _ _ _ _ x y e

tenant_named : (version : ℕ) (before : List Chain) (d : Data) (c : Chain) → tenant_at version before d ≡ Ok c → (is_name c.name ≡ true) × (is_among c.name (map (λ x. x.name) before) ≡ false)
unfolding tenant_at tenant_values chain_of
tenant_named version before d c e =
    let place : ℕ = length before + 1 in
    let earlier : List (List ℕ) = map (λ x. x.name) before in
    let a = ok_then (table_in 0 (codes "tenant") d) (tenant_values version place earlier) c e in
    let b = ok_then (known place tenant_row a.0) _ c a.2 in
    let n = ok_then (tenant_name place earlier a.0) _ c b.2 in
    let p = ok_then (tenant_capture place a.0) _ c n.2 in
    let s = ok_then (settings_in place a.0) _ c p.2 in
    let t = ok_then (nat_at place (get_member (codes "nat") a.0)) _ c s.2 in
    let g = ok_then (tenant_stages place a.0) _ c t.2 in
    let h = ok_then (tenant_groups version place a.0) _ c g.2 in
    let same = fits_same place (chain_of n.0 p.0 s.0 t.0 g.0 h.0) c h.2 in
    let name : n.0 ≡ c.name = ap (λ (x : Chain). x.name) same in
    let k = name_known place earlier a.0 n.0 n.1 in
    (subst (λ m. is_name m ≡ true) name k.0, subst (λ m. is_among m earlier ≡ false) name k.1)

-- none of the names is the one that is not among them
among_none : (n : List ℕ) (names : List (List ℕ)) → is_among n names ≡ false → AllByRecursion (λ m. m ≢ n) names
among_none n [] e = tt
among_none n (m ∷ ms) e = let p = parts (bytes_eq m n) (is_among n ms) e in (λ same. clash (bytes_eq m n) p.0 ((bytes_eq-Decides m n).1 same), among_none n ms p.1)
  where
    parts : (a b : Bool) → (a || b) ≡ false → (a ≡ false) × (b ≡ false)
    parts false b e = (refl, e)
    parts true b e = cc

    clash : (a : Bool) → a ≡ false → a ≡ true → ⊥
    clash false e f = cc
    clash true e f = cc

named_more : (cs : List Chain) (c : Chain) → AreNamed cs → is_name c.name ≡ true → AreNamed (cs ++ c ∷ [])
named_more [] c named one = (one, tt)
named_more (x ∷ cs) c named one = (named.0, named_more cs c named.1 one)

apart_more : (cs : List Chain) (c : Chain) → NamesApart cs → AllByRecursion (λ m. m ≢ c.name) (map (λ (x : Chain). x.name) cs) → NamesApart (cs ++ c ∷ [])
apart_more [] c names other = (tt, tt)
apart_more (x ∷ cs) c names other = (more cs names.0, apart_more cs c names.1 other.1)
  where
    more : (ds : List Chain) → AllByRecursion (λ d. x.name ≢ d.name) ds → AllByRecursion (λ d. x.name ≢ d.name) (ds ++ c ∷ [])
    more [] h = (other.0, tt)
    more (d ∷ ds) h = (h.0, more ds h.1)

each_named : (version : ℕ) (before : List Chain) (ds : Items) (set : List Chain) → AreNamed before → NamesApart before → each_after (tenant_at version) before ds ≡ Ok set → AreNamed set × NamesApart set
unfolding each_after
each_named version before no_items set named names e = subst (λ (s : List Chain). AreNamed s × NamesApart s) (same_ok before set e) (named, names)
each_named version before (item d ds) set named names e =
    let r = ok_then (tenant_at version before d) (λ x. each_after (tenant_at version) (before ++ x ∷ []) ds) set e in
    let t = tenant_named version before d r.0 r.1 in
    each_named version (before ++ r.0 ∷ []) ds set (named_more before r.0 named t.0) (apart_more before r.0 names (among_none r.0.name (map (λ (x : Chain). x.name) before) t.1)) r.2

tenants_named : (version : ℕ) (d : Data) (set : List Chain) → tenants_in version d ≡ Ok set → AreNamed set × NamesApart set
unfolding tenants_in
tenants_named version d set e =
    let a = ok_then (or_fault (Range 0 (codes "tenant")) (as_array d)) _ set e in
    each_named version [] a.0 set tt tt (past (nat_eq (count a.0) 0) (nat_lt most_tenants (count a.0)) (Range 0 (codes "tenant")) (TooManyTenants (min (count a.0) 4294967295)) (each_after (tenant_at version) [] a.0) set a.2)

top_named : (ms : Members) (set : List Chain) → top ms ≡ Ok set → AreNamed set × NamesApart set
unfolding top
top_named ms set e =
    let a = ok_then (known 0 top_row ms) _ set e in
    let b = ok_then (required 0 (codes "version") ms) _ set a.2 in
    let v = ok_then (number_in 0 (codes "version") 1 last_version b.0) _ set b.2 in
    let r = ok_then (required 0 (codes "tenant") ms) _ set v.2 in
    tenants_named v.0 r.0 set r.2

-- CAPTURES

none_is : (o : Option (List ℕ)) (u : Unit {0}) → none_taken o ≡ Ok u → o ≡ None
none_is None u e = refl
none_is (Some n) u e = cc

none_taken_of : (taken names : List (List ℕ)) → first_taken taken names ≡ None → AllByRecursion (λ n. is_among n taken ≡ false) names
none_taken_of taken [] e = tt
none_taken_of taken (n ∷ ns) e = by (is_among n taken) refl e (none_taken_of taken ns)
  where
    by : (b : Bool) → is_among n taken ≡ b → cond b (Some n) (first_taken taken ns) ≡ None → (first_taken taken ns ≡ None → AllByRecursion (λ m. is_among m taken ≡ false) ns) → AllByRecursion (λ m. is_among m taken ≡ false) (n ∷ ns)
    by true is e rest = cc
    by false is e rest = (is, rest e)

-- no file has the name of one of the captures
file_apart : (set : List Chain) (own file : List ℕ) → is_among file (own ∷ map (λ (c : Chain). c.capture) set) ≡ false → AllByRecursion (λ (d : Chain). d.capture ≢ file) set
file_apart set own file e = of_map set (among_none file (own ∷ map (λ (c : Chain). c.capture) set) e).1
  where
    of_map : (ds : List Chain) → AllByRecursion (λ m. m ≢ file) (map (λ (c : Chain). c.capture) ds) → AllByRecursion (λ (d : Chain). d.capture ≢ file) ds
    of_map [] h = tt
    of_map (d ∷ ds) h = (h.0, of_map ds h.1)

files_apart : (set : List Chain) (own : List ℕ) (files : List (List ℕ)) → AllByRecursion (λ n. is_among n (own ∷ map (λ (c : Chain). c.capture) set) ≡ false) files
    → AllByRecursion (λ file. AllByRecursion (λ (d : Chain). d.capture ≢ file) set) files
files_apart set own [] h = tt
files_apart set own (f ∷ fs) h = (file_apart set own f h.0, files_apart set own fs h.1)

swap : (files : List (List ℕ)) (set : List Chain) → AllByRecursion (λ file. AllByRecursion (λ (d : Chain). d.capture ≢ file) set) files → AllByRecursion (λ (d : Chain). IsApart files d.capture) set
swap files [] h = tt
swap files (d ∷ ds) h = (heads files h, swap files ds (tails files h))
  where
    heads : (fs : List (List ℕ)) → AllByRecursion (λ file. AllByRecursion (λ (d : Chain). d.capture ≢ file) (d ∷ ds)) fs → IsApart fs d.capture
    heads [] h = tt
    heads (f ∷ fs) h = (h.0.0, heads fs h.1)

    tails : (fs : List (List ℕ)) → AllByRecursion (λ file. AllByRecursion (λ (d : Chain). d.capture ≢ file) (d ∷ ds)) fs → AllByRecursion (λ file. AllByRecursion (λ (d : Chain). d.capture ≢ file) ds) fs
    tails [] h = tt
    tails (f ∷ fs) h = (h.0.1, tails fs h.1)

-- no file of the run is the chain file, and none is a capture
taken_apart : (own out : List ℕ) (set : List Chain) (u : Unit {0}) → apart own out set ≡ Ok u → AllByRecursion (λ file. is_among file (own ∷ map (λ (c : Chain). c.capture) set) ≡ false) (run_files out set)
unfolding apart
taken_apart own out set u e = none_taken_of (own ∷ map (λ (c : Chain). c.capture) set) (run_files out set) (none_is _ u e)

captures_apart : (own out : List ℕ) (set : List Chain) (u : Unit {0}) → apart own out set ≡ Ok u → CapturesApart out set set
captures_apart own out set u e = swap (run_files out set) set (files_apart set own (run_files out set) (taken_apart own out set u e))

own_apart : (set : List Chain) (own : List ℕ) (files : List (List ℕ)) → AllByRecursion (λ n. is_among n (own ∷ map (λ (c : Chain). c.capture) set) ≡ false) files → IsApart files own
own_apart set own [] h = tt
own_apart set own (f ∷ fs) h = ((among_none f (own ∷ map (λ (c : Chain). c.capture) set) h.0).0, own_apart set own fs h.1)

-- ALL

-- what an accepted chain file says of the names of its files
pub record NamesAreApart (own out : List ℕ) (set : List Chain) : Type 0 where
  pub named : AreNamed set
  pub names : NamesApart set
  pub chain_file : IsApart (run_files out set) own
  pub captures : CapturesApart out set set

pub accepted_names : (own out bytes : List ℕ) (set : List Chain) → read_chains own out bytes ≡ Ok set → NamesAreApart own out set
unfolding read_chains
accepted_names own out bytes set e =
    let a = ok_then (tree bytes) (λ ms. top ms >>= λ chains. apart own out chains >>= λ _. Ok chains) set e in
    let b = ok_then (top a.0) (λ chains. apart own out chains >>= λ _. Ok chains) set a.2 in
    let c = ok_then (apart own out b.0) (λ _. Ok b.0) set b.2 in
    let n = top_named a.0 b.0 b.1 in
    subst (NamesAreApart own out) (same_ok b.0 set c.2) (record {
      named = n.0;
      names = n.1;
      chain_file = own_apart b.0 own (run_files out b.0) (taken_apart own out b.0 c.0 c.1);
      captures = captures_apart own out b.0 c.0 c.1;
    })

-- the tenants' files and captures are apart
pub accepted_apart : (own out bytes : List ℕ) (set : List Chain) → read_chains own out bytes ≡ Ok set → AllApart out set
accepted_apart own out bytes set e = let n = accepted_names own out bytes set e in set_apart out set n.named n.names n.captures
