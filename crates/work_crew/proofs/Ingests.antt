-- One record more of an ingest.
use Rattle.std.proofs.Common.{◌≡◌, ◌≢◌, ℕ, zero, suc, ◌+◌, ◌<◌, ◌≤◌, Bool, true, false, ◌||◌, nat_eq, List, [], ◌∷◌, ◌++◌, length, sym, refl, ap, ◌∙◌, subst, arith, inl, inr, append-nil, length-append}
use Rattle.std.specs.Prelude.{if◌then◌else◌}
use Rattle.std.proofs.lemmas.Bool.Decides.{eqb_tells}
use Rattle.std.proofs.lemmas.List.Folds.{list_any-append}
use Rattle.work_crew.specs.Records.{is_in, numbers_where}

pub where_yes : (t : ℕ → Bool) (n : ℕ) → t n ≡ true → numbers_where t (suc n) ≡ numbers_where t n ++ n ∷ []
where_yes t n e = ap (λ b. numbers_where t n ++ (if b then n ∷ [] else [])) e

pub where_no : (t : ℕ → Bool) (n : ℕ) → t n ≡ false → numbers_where t (suc n) ≡ numbers_where t n
where_no t n e = ap (λ b. numbers_where t n ++ (if b then n ∷ [] else [])) e ∙ append-nil (numbers_where t n)

pub where_same : (t u : ℕ → Bool) (n : ℕ) → ((k : ℕ) → k < n → t k ≡ u k) → numbers_where t n ≡ numbers_where u n
where_same t u zero h = refl
where_same t u (suc n) h = λ j. where_same t u n (λ k lt. h k (omega arith)) j ++ (if h n (omega arith) j then n ∷ [] else [])

pub in_more : (xs : List ℕ) (n k : ℕ) → is_in (xs ++ n ∷ []) k ≡ (is_in xs k || nat_eq k n)
in_more xs n k = list_any-append (nat_eq k) xs (n ∷ []) ∙ ap (λ b. is_in xs k || b) (or_false (nat_eq k n)) where
  or_false : (b : Bool) → (b || false) ≡ b
  or_false true = refl
  or_false false = refl

or_left : (a b : Bool) → a ≡ true → (a || b) ≡ true
or_left true b e = refl
or_left false b e = absurd (cc)

or_cases : (a b : Bool) → (a || b) ≡ true → a ≢ true → b ≡ true
or_cases true b e n = absurd (n refl)
or_cases false b e n = e

or_none : (b : Bool) → (b || false) ≡ b
or_none true = refl
or_none false = refl

-- what is among the numbers below n is below n
pub in_below : (t : ℕ → Bool) (n k : ℕ) → is_in (numbers_where t n) k ≡ true → k < n
in_below t zero k e = absurd (cc)
in_below t (suc n) k e = by_test (t n) refl (in_below t n k) where
  by_test : (b : Bool) → t n ≡ b → (is_in (numbers_where t n) k ≡ true → k < n) → k < suc n
  by_test false no_ next = let r = next (ap (λ xs. is_in xs k) (sym (where_no t n no_)) ∙ e) in omega arith
  by_test true yes_ next = elim (eqb_tells k n) [
    | inl h ↦ let is = h.1 in omega arith
    | inr h ↦ let r = next (sym (or_none (is_in (numbers_where t n) k)) ∙ ap (λ b. is_in (numbers_where t n) k || b) (sym h.0) ∙ sym (in_more (numbers_where t n) n k) ∙ ap (λ xs. is_in xs k) (sym (where_yes t n yes_)) ∙ e) in omega arith
  ]

-- LENGTHS

length_by : (b : Bool) (n : ℕ) → ℕ
length_by b n = length (if b then n ∷ [] else [])

pub where_length : (t : ℕ → Bool) (n : ℕ) → length (numbers_where t (suc n)) ≡ length (numbers_where t n) + length (if t n then n ∷ [] else [])
where_length t n = length-append (numbers_where t n) (if t n then n ∷ [] else [])

pub one_most : (b : Bool) (n : ℕ) → length (if b then n ∷ [] else []) ≤ 1
one_most true n = omega arith
one_most false n = omega arith

pub where_most : (t : ℕ → Bool) (n : ℕ) → length (numbers_where t n) ≤ n
where_most t zero = omega arith
where_most t (suc n) = let r = where_most t n in let l = where_length t n in let o = one_most (t n) n in omega arith

fewer_by : (a b : Bool) (n : ℕ) → (a ≡ true → b ≡ true) → length (if a then n ∷ [] else []) ≤ length (if b then n ∷ [] else [])
fewer_by true true n h = omega arith
fewer_by true false n h = let e = h refl in absurd (cc)
fewer_by false b n h = omega arith

where_fewer : (t u : ℕ → Bool) (n : ℕ) → ((k : ℕ) → t k ≡ true → u k ≡ true) → length (numbers_where t n) ≤ length (numbers_where u n)
where_fewer t u zero h = omega arith
where_fewer t u (suc n) h = let r = where_fewer t u n h in let a = where_length t n in let b = where_length u n in let f = fewer_by (t n) (u n) n (h n) in omega arith

where_longer : (u : ℕ → Bool) (n m : ℕ) → n < m → length (numbers_where u n) + length (if u n then n ∷ [] else []) ≤ length (numbers_where u m)
where_longer u n zero lt = absurd (omega arith)
where_longer u n (suc m) lt = elim (eqb_tells n m) [
  | inl h ↦ subst (λ k. length (numbers_where u k) + length (if u k then k ∷ [] else []) ≤ length (numbers_where u (suc m))) (sym h.1) (let l = where_length u m in omega arith)
  | inr h ↦ let r = where_longer u n m (let ne = h.1 in omega arith) in let l = where_length u m in omega arith
]

-- fewer passed the sharper test below n than the other below m, which n passes
pub where_less : (t u : ℕ → Bool) (n m : ℕ) → ((k : ℕ) → t k ≡ true → u k ≡ true) → n < m → u n ≡ true → length (numbers_where t n) < length (numbers_where u m)
where_less t u n m h lt yes_ = let a = where_fewer t u n h in let b = where_longer u n m lt in let c : length (if u n then n ∷ [] else []) ≡ 1 = ap (λ b. length (if b then n ∷ [] else [])) yes_ in omega arith
