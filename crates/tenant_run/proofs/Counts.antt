-- Counts of reasons, with Big records more.
use Rattle.std.proofs.Common.{◌≡◌, ◌≢◌, ℕ, ◌+◌, List, [], ◌∷◌, ◌++◌, map, length, min, nat_eq, Bool, true, false, ◌||◌, refl, ap, subst, ◌∙◌, arith, cond, get_or, set}
use Rattle.std.specs.List.{count_by, list_any}
use Rattle.std.proofs.lemmas.Bool.Decides.{nat_tests}
use Rattle.std.proofs.lemmas.List.Sums.{sum_by-append}
use Rattle.brick_spec.specs.Item.{Item}
use Rattle.brick_spec.specs.Stage.{Reason, Big}
use Rattle.flow_spec.specs.Answer.{counts_of, is_at}

abbrev bigs_among : List Item → List Reason
bigs_among bigs = map (λ (i : Item). Big) bigs

count_both : (p : Reason → Bool) (xs ys : List Reason) → count_by p (xs ++ ys) ≡ count_by p xs + count_by p ys
count_both p xs ys = sum_by-append (λ r. cond (p r) 1 0) xs ys

one_no : (p : Reason → Bool) → p Big ≡ false → count_by p (Big ∷ []) ≡ 0
one_no p e = ap (λ (b : Bool). 0 + cond b 1 0) e

one_yes : (p : Reason → Bool) → p Big ≡ true → count_by p (Big ∷ []) ≡ 1
one_yes p e = ap (λ (b : Bool). 0 + cond b 1 0) e

none_elsewhere : (p : Reason → Bool) → p Big ≡ false → (bigs : List Item) → count_by p (bigs_among bigs) ≡ 0
none_elsewhere p e [] = refl
none_elsewhere p e (x ∷ xs) = count_both p (Big ∷ []) (bigs_among xs) ∙ (let a = one_no p e in let b = none_elsewhere p e xs in omega (arith, a, b))

all_there : (p : Reason → Bool) → p Big ≡ true → (bigs : List Item) → count_by p (bigs_among bigs) ≡ length bigs
all_there p e [] = refl
all_there p e (x ∷ xs) = count_both p (Big ∷ []) (bigs_among xs) ∙ (let a = one_yes p e in let b = all_there p e xs in omega (arith, a, b))

-- the counts of other reasons stay
stays : (k : ℕ) → is_at k Big ≡ false → (bigs : List Item) (rs : List Reason) → count_by (is_at k) rs ≡ count_by (is_at k) (bigs_among bigs ++ rs)
stays k e bigs rs = let a = count_both (is_at k) (bigs_among bigs) rs in let b = none_elsewhere (is_at k) e bigs in omega (arith, a, b)

or_no : (a b : Bool) → (a || b) ≡ false → (a ≡ false) × (b ≡ false)
or_no false false e = (refl, refl)
or_no false true e = (refl, e)
or_no true b e = (e, absurd (no e)) where
  no : true ≡ false → ⊥
  no z = cc

not_last : (x : ℕ) → nat_eq (min 4294967295 x) 4294967295 ≡ false → min 4294967295 x ≡ x
not_last x h = let ne : min 4294967295 x ≢ 4294967295 = grind (arith, nat_tests) in omega (arith, ne)

exact : (xs : List ℕ) → list_any (λ y. nat_eq y 4294967295) (map (min 4294967295) xs) ≡ false → map (min 4294967295) xs ≡ xs
exact [] h = refl
exact (x ∷ xs) h =
    let h' : _ = or_no (nat_eq (min 4294967295 x) 4294967295) (list_any (λ y. nat_eq y 4294967295) (map (min 4294967295) xs)) h in
    (λ i. not_last x h'.0 i ∷ exact xs h'.1 i)

pub counts_with_big : (drops : List ℕ) (big all : ℕ) (rs : List Reason) (bigs : List Item) → list_any (λ y. nat_eq y 4294967295) drops ≡ false
    → all ≡ get_or drops 0 0 + big → drops ≡ map (min 4294967295) (counts_of rs) → big ≡ length bigs → set drops 0 all ≡ counts_of (bigs_among bigs ++ rs)
counts_with_big drops big all rs bigs none is same many =
    let now : drops ≡ counts_of rs = same ∙ exact (counts_of rs) (subst (λ xs. list_any (λ y. nat_eq y 4294967295) xs ≡ false) same none) in
    let first : all ≡ count_by (is_at 0) (bigs_among bigs ++ rs) =
    is ∙ ((λ i. get_or (now i) 0 0 + many i) ∙ (let e = count_both (is_at 0) (bigs_among bigs) rs in let f = all_there (is_at 0) refl bigs in omega (arith, e, f))) in
    (λ i. set (now i) 0 (first i))
    ∙ (λ i. count_by (is_at 0) (bigs_among bigs ++ rs) ∷ stays 1 refl bigs rs i ∷ stays 2 refl bigs rs i ∷ stays 3 refl bigs rs i ∷ stays 4 refl bigs rs i ∷ stays 5 refl bigs rs i ∷ stays 6 refl bigs rs i ∷ stays 7 refl bigs rs i ∷ stays 8 refl bigs rs i ∷ [])
