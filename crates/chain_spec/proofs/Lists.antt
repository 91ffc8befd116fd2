-- Lists that a member is put behind: of names of which none stands twice, of record numbers that rise, and of what passes a test.
use Rattle.std.proofs.Common.{◌≡◌, ◌∙◌, ◌<◌, ◌≤◌, ◌+◌, Bool, true, false, not, ◌&&◌, cond, ℕ, List, [], ◌∷◌, ◌++◌, length, map, nat_lt, refl, ap, sym, subst, append_assoc, append-nil, arith}
use Rattle.std.proofs.lemmas.Bool.{and_parts, lt-ltb}
use Rattle.std.proofs.lemmas.List.{length-append}
use Rattle.std.specs.List.{list_all}
use Rattle.flow_spec.specs.Balancing.{Change}
use Rattle.chain_spec.specs.ChainSet.{is_among, with_name, are_new, are_distinct, are_rising}
use Rattle.chain_spec.specs.StageWalk.{last_begin}

abbrev Names : Type 0
Names = List (List ℕ)

pub both : (a b : Bool) → a ≡ true → b ≡ true → (a && b) ≡ true
both a b h k = rw (h, k) refl

-- NAMES

not_false : (a : Bool) → a ≡ false → not a ≡ true
not_false a h = rw h refl

new_push : (before ns : Names) (n : List ℕ) → are_new before ns ≡ true → is_among n (before ++ ns) ≡ false → are_new before (ns ++ n ∷ []) ≡ true
new_push before [] n h fresh = both _ true (not_false _ (ap (is_among n) (sym (append-nil before)) ∙ fresh)) refl
new_push before (x ∷ xs) n h fresh =
    let parts = and_parts (not (is_among x before)) (are_new (before ++ x ∷ []) xs) h in
    both _ _ parts.0 (new_push (before ++ x ∷ []) xs n parts.1 (ap (is_among n) (append_assoc before (x ∷ []) xs) ∙ fresh))

pub distinct_push : (ns : Names) (n : List ℕ) → are_distinct ns ≡ true → is_among n ns ≡ false → are_distinct (ns ++ n ∷ []) ≡ true
distinct_push ns n h fresh = new_push [] ns n h fresh

-- by whether it is among them
cases : (b : Bool) (P : Bool → Type 0) → (b ≡ true → P true) → (b ≡ false → P false) → P b
cases true P f g = f refl
cases false P f g = g refl

pub with_distinct : (ns : Names) (n : List ℕ) → are_distinct ns ≡ true → are_distinct (with_name ns n) ≡ true
with_distinct ns n h =
    cases (is_among n ns) (λ b. are_distinct (cond b ns (ns ++ n ∷ [])) ≡ true) (λ _. h) (λ fresh. distinct_push ns n h fresh)

some_among : (n : List ℕ) (ns : Names) → is_among n ns ≡ true → 0 < length ns
some_among n [] h = cc
some_among n (x ∷ xs) h = omega arith

pub with_some : (ns : Names) (n : List ℕ) → 0 < length (with_name ns n)
with_some ns n =
    cases (is_among n ns) (λ b. 0 < length (cond b ns (ns ++ n ∷ []))) (λ among. some_among n ns among) (λ _. omega (arith, length-append ns (n ∷ [])))

pub with_few : (ns : Names) (n : List ℕ) → length (with_name ns n) ≤ length ns + 1
with_few ns n =
    cases (is_among n ns) (λ b. length (cond b ns (ns ++ n ∷ [])) ≤ length ns + 1) (λ _. omega arith) (λ _. omega (arith, length-append ns (n ∷ [])))

-- WHAT PASSES A TEST

pub all_push : {X : Type 0} (p : X → Bool) (xs : List X) (x : X) → list_all p xs ≡ true → p x ≡ true → list_all p (xs ++ x ∷ []) ≡ true
all_push p [] x all here = both (p x) true here refl
all_push p (y ∷ ys) x all here =
    let parts = and_parts (p y) (list_all p ys) all in
    both (p y) (list_all p (ys ++ x ∷ [])) parts.0 (all_push p ys x parts.1 here)

pub all_with : (p : List ℕ → Bool) (ns : Names) (n : List ℕ) → list_all p ns ≡ true → p n ≡ true → list_all p (with_name ns n) ≡ true
all_with p ns n all here = cases (is_among n ns) (λ b. list_all p (cond b ns (ns ++ n ∷ [])) ≡ true) (λ _. all) (λ _. all_push p ns n all here)

-- NUMBERS THAT RISE

-- where the last one begins, of those behind one that begins at n
last_from : ℕ → List Change → ℕ
last_from n [] = n
last_from n (c ∷ cs) = last_from c.from cs

last_is : (c : Change) (cs : List Change) → last_begin (c ∷ cs) ≡ last_from c.from cs
unfolding last_from
last_is c [] = refl
last_is c (d ∷ ds) = last_is d ds

rising_behind : (n : ℕ) (cs : List Change) (x : Change) → are_rising n cs ≡ true → last_from n cs < x.from → are_rising n (cs ++ x ∷ []) ≡ true
unfolding last_from
rising_behind n [] x all lt = both (nat_lt n x.from) true (lt-ltb n x.from lt) refl
rising_behind n (c ∷ cs) x all lt =
    let parts = and_parts (nat_lt n c.from) (are_rising c.from cs) all in
    both (nat_lt n c.from) (are_rising c.from (cs ++ x ∷ [])) parts.0 (rising_behind c.from cs x parts.1 lt)

pub rising_push : (cs : List Change) (x : Change) → are_rising 0 cs ≡ true → last_begin cs < x.from → are_rising 0 (cs ++ x ∷ []) ≡ true
unfolding last_from
rising_push [] x all lt = rising_behind 0 [] x all lt
rising_push (c ∷ cs) x all lt = rising_behind 0 (c ∷ cs) x all (subst (λ n. n < x.from) (last_is c cs) lt)
