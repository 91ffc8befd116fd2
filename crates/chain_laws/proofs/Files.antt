-- The names of the files of a run, of which none stands twice.
use Rattle.std.proofs.Common.{◌≡◌, ◌≢◌, Bool, true, false, not, ◌||◌, ℕ, List, [], ◌∷◌, ◌++◌, map, refl, sym, ◌∙◌, ap, subst, arith, append_assoc}
use Rattle.std.specs.Prelude.{codes, IsTrue, Ok}
use Rattle.std.specs.List.{AllByRecursion}
use Rattle.std.specs.Str.{bytes_eq}
use Rattle.std.proofs.lemmas.Bool.{and_parts}
use Rattle.std.proofs.lemmas.Slice.Eq.{bytes_eq-Decides}
use Rattle.std.proofs.lemmas.List.{append_cancel_left, append_cancel_right}
use Rattle.chain_spec.specs.ChainSet.{Chain, output_file, refused_file, file_names, run_files, is_among, are_new, are_distinct}
use Rattle.chain_spec.specs.ChainWalk.{read_chains}
use Rattle.run_spec.specs.Tenants.{TenantsApart, AllApart}
use Rattle.run_spec.proofs.Set.{set_apart}
use Rattle.chain_laws.specs.Files.{NoNameTwice, HasOwnFiles, FilesAreDistinct}
use Rattle.chain_laws.specs.Right.{IsRight}
use Rattle.chain_laws.proofs.Right.{set_right}
use Rattle.chain_laws.proofs.Sets.{NamesAreApart, accepted_names}

-- AN OUTPUT AND THE REFUSED RECORDS

last_byte : List ℕ → ℕ
last_byte [] = 0
last_byte (x ∷ []) = x
last_byte (x ∷ (y ∷ ys)) = last_byte (y ∷ ys)

last-append : (xs : List ℕ) (y : ℕ) (ys : List ℕ) → last_byte (xs ++ y ∷ ys) ≡ last_byte (y ∷ ys)
unfolding last_byte
last-append [] y ys = refl
last-append (x ∷ []) y ys = refl
last-append (x ∷ (z ∷ xs)) y ys = last-append (z ∷ xs) y ys

files_apart : (out name group : List ℕ) → output_file out name group ≢ refused_file out name
unfolding last_byte
files_apart out name group same =
    let output : output_file out name group ≡ (out ++ (codes "/" ++ (name ++ (codes "." ++ group)))) ++ codes ".pcap" = simp append_assoc in
    let refused : refused_file out name ≡ (out ++ (codes "/" ++ name)) ++ codes ".refused" = simp append_assoc in
    let a = ap last_byte output ∙ last-append (out ++ (codes "/" ++ (name ++ (codes "." ++ group)))) 46 (codes "pcap") in
    let b = ap last_byte refused ∙ last-append (out ++ (codes "/" ++ name)) 46 (codes "refused") in
    let c : 112 ≡ 100 = sym a ∙ (ap last_byte same ∙ b) in
    omega (arith, c)

-- TWO OUTPUTS

output_name : (out name one two : List ℕ) → output_file out name one ≡ output_file out name two → one ≡ two
output_name out name one two same =
    let a = append_cancel_left out _ _ same in
    let b = append_cancel_left (codes "/") _ _ a in
    let c = append_cancel_left name _ _ b in
    append_cancel_right one two (codes ".pcap") (append_cancel_left (codes ".") _ _ c)

-- NAMES OF WHICH NONE STANDS TWICE

same_bytes : (n : List ℕ) → bytes_eq n n ≡ true
same_bytes n = (bytes_eq-Decides n n).1 refl

among_last : (before : List (List ℕ)) (n : List ℕ) → is_among n (before ++ n ∷ []) ≡ true
among_last [] n = or_first (bytes_eq n n) false (same_bytes n)
  where
    or_first : (a b : Bool) → a ≡ true → (a || b) ≡ true
    or_first true b h = refl
    or_first false b h = cc
among_last (x ∷ xs) n = or_second (bytes_eq x n) (is_among n (xs ++ n ∷ [])) (among_last xs n)
  where
    or_second : (a b : Bool) → b ≡ true → (a || b) ≡ true
    or_second true b h = refl
    or_second false b h = h

among_more : (before more : List (List ℕ)) (n : List ℕ) → is_among n before ≡ true → is_among n (before ++ more) ≡ true
among_more [] more n h = cc
among_more (x ∷ xs) more n h = by (bytes_eq x n) h (among_more xs more n)
  where
    by : (a : Bool) → (a || is_among n xs) ≡ true → (is_among n xs ≡ true → is_among n (xs ++ more) ≡ true) → (a || is_among n (xs ++ more)) ≡ true
    by true h f = refl
    by false h f = f h

-- what stood before is none of the names
apart_of : (n : List ℕ) (before names : List (List ℕ)) → is_among n before ≡ true → are_new before names ≡ true → AllByRecursion (λ m. n ≢ m) names
apart_of n before [] among new = tt
apart_of n before (m ∷ ms) among new =
    let parts = and_parts (not (is_among m before)) (are_new (before ++ m ∷ []) ms) new in (
      λ same. clash (is_among m before) (subst (λ k. is_among k before ≡ true) same among) parts.0,
      apart_of n (before ++ m ∷ []) ms (among_more before (m ∷ []) n among) parts.1,
    )
  where
    clash : (a : Bool) → a ≡ true → not a ≡ true → ⊥
    clash true h k = cc
    clash false h k = cc

-- THE FILES OF A TENANT

pub names_apart : (out name : List ℕ) (outputs : List (List ℕ)) → IsTrue (are_distinct outputs) → NoNameTwice (map (output_file out name) outputs ++ refused_file out name ∷ [])
names_apart out name outputs distinct = by [] outputs distinct
  where
    others : (n : List ℕ) (names : List (List ℕ)) → AllByRecursion (λ m. n ≢ m) names
        → AllByRecursion (λ m. output_file out name n ≢ m) (map (output_file out name) names ++ refused_file out name ∷ [])
    others n [] apart = (files_apart out name n, tt)
    others n (m ∷ ms) apart = (λ same. apart.0 (output_name out name n m same), others n ms apart.1)

    by : (before names : List (List ℕ)) → are_new before names ≡ true → NoNameTwice (map (output_file out name) names ++ refused_file out name ∷ [])
    by before [] new = (tt, tt)
    by before (n ∷ ns) new =
        let parts = and_parts (not (is_among n before)) (are_new (before ++ n ∷ []) ns) new in
        (others n ns (apart_of n (before ++ n ∷ []) ns (among_last before n) parts.1), by (before ++ n ∷ []) ns parts.1)

-- THE FILES OF A RUN

both : (xs ys : List (List ℕ)) → NoNameTwice xs → NoNameTwice ys → AllByRecursion (λ x. AllByRecursion (λ y. x ≢ y) ys) xs → NoNameTwice (xs ++ ys)
both [] ys h k apart = k
both (x ∷ xs) ys h k apart = (more xs h.0, both xs ys h.1 k apart.1)
  where
    more : (zs : List (List ℕ)) → AllByRecursion (λ m. x ≢ m) zs → AllByRecursion (λ m. x ≢ m) (zs ++ ys)
    more [] h = apart.0
    more (z ∷ zs) h = (h.0, more zs h.1)

-- the files of a tenant are apart from those of all behind it
from_all : (out : List ℕ) (c : Chain) (set : List Chain) → AllByRecursion (TenantsApart out c) set → AllByRecursion (λ file. AllByRecursion (λ y. file ≢ y) (run_files out set)) (file_names out c)
from_all out c [] h = none (file_names out c)
  where
    none : (files : List (List ℕ)) → AllByRecursion (λ file. AllByRecursion (λ y. file ≢ y) []) files
    none [] = tt
    none (f ∷ fs) = (tt, none fs)
from_all out c (d ∷ set) h = each (file_names out c) h.0.files (from_all out c set h.1)
  where
    joined : (f : List ℕ) (xs ys : List (List ℕ)) → AllByRecursion (λ y. f ≢ y) xs → AllByRecursion (λ y. f ≢ y) ys → AllByRecursion (λ y. f ≢ y) (xs ++ ys)
    joined f [] ys h k = k
    joined f (x ∷ xs) ys h k = (h.0, joined f xs ys h.1 k)

    each : (files : List (List ℕ)) → AllByRecursion (λ file. AllByRecursion (λ y. file ≢ y) (file_names out d)) files → AllByRecursion (λ file. AllByRecursion (λ y. file ≢ y) (run_files out set)) files
        → AllByRecursion (λ file. AllByRecursion (λ y. file ≢ y) (file_names out d ++ run_files out set)) files
    each [] h k = tt
    each (f ∷ fs) h k = (joined f (file_names out d) (run_files out set) h.0 k.0, each fs h.1 k.1)

all_distinct : (out : List ℕ) (set : List Chain) → AllByRecursion IsRight set → AllApart out set → NoNameTwice (run_files out set)
all_distinct out [] right apart = tt
all_distinct out (c ∷ set) right apart =
    both (file_names out c) (run_files out set) (names_apart out c.name c.outputs right.0.outputs_distinct) (all_distinct out set right.1 apart.1) (from_all out c set apart.0)

pub files_are_distinct : FilesAreDistinct
files_are_distinct own out bytes set e =
    let n = accepted_names own out bytes set e in
    record {
      distinct = all_distinct out set (set_right own out bytes set e) (set_apart out set n.named n.names n.captures);
      chain_file = n.chain_file;
      captures = n.captures;
    }
