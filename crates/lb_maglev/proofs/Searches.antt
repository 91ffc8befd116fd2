-- What the search for a free place finds.
use Rattle.std.proofs.Common.{◌≡◌, ℕ, zero, suc, ◌+◌, ◌<◌, ◌≤◌, Bool, true, false, cond, refl, sym, ◌∙◌, ap, arith, inl, inr, get_or, List, [], ◌∷◌, length, Option, Some, None, map, set}
use Rattle.std.specs.List.{range_with_len, find}
use Rattle.std.specs.Option.{is_none}
use Rattle.std.proofs.lemmas.List.{get_or-set_same}
use Rattle.std.proofs.lemmas.List.FromFn.{get_or-range_with_len, length-range_with_len}
use Rattle.std.proofs.lemmas.Grind.{common_steps}
use Rattle.std.proofs.lemmas.Bool.{cases_lt}
use Rattle.brick_spec.specs.Balance.{Places, is_free, first_free, preferred_place, with_taken}
use Rattle.lb_maglev.specs.Passed.{ArePassed}
use Rattle.lb_maglev.proofs.Prime.{reached}

-- the first of the elements that passes
find_at : (p : ℕ → Bool) (f : ℕ → ℕ) (a n j : ℕ) → j < n → ((i : ℕ) → i < j → p (f (a + i)) ≡ false) → p (f (a + j)) ≡ true → find p (map f (range_with_len a n)) ≡ Some (f (a + j))
find_at p f a zero j within fail passes = absurd (omega arith)
find_at p f a (suc n) zero within fail passes =
    let same : a + 0 ≡ a = omega arith in
    let here : p (f a) ≡ true = ap (λ i. p (f i)) (sym same) ∙ passes in
    ap (λ b. cond b (Some (f a)) (find p (map f (range_with_len (a + 1) n)))) here ∙ ap (λ i. Some (f i)) (sym same)
find_at p f a (suc n) (suc j) within fail passes =
    let same : a + 0 ≡ a = omega arith in
    let here : p (f a) ≡ false = ap (λ i. p (f i)) (sym same) ∙ fail 0 (omega arith) in
    let further : (i : ℕ) → (a + 1) + i ≡ a + suc i = λ i. omega arith in
    ap (λ b. cond b (Some (f a)) (find p (map f (range_with_len (a + 1) n)))) here
    ∙ find_at p f (a + 1) n j (omega arith) (λ i h. ap (λ k. p (f k)) (further i) ∙ fail (suc i) (omega arith)) (ap (λ k. p (f k)) (further j) ∙ passes)
    ∙ ap (λ k. Some (f k)) (further j)

-- no element passes
find_none : (p : ℕ → Bool) (f : ℕ → ℕ) (a n : ℕ) → ((i : ℕ) → i < n → p (f (a + i)) ≡ false) → find p (map f (range_with_len a n)) ≡ None
find_none p f a zero fail = refl
find_none p f a (suc n) fail =
    let same : a + 0 ≡ a = omega arith in
    let here : p (f a) ≡ false = ap (λ i. p (f i)) (sym same) ∙ fail 0 (omega arith) in
    let further : (i : ℕ) → (a + 1) + i ≡ a + suc i = λ i. omega arith in
    ap (λ b. cond b (Some (f a)) (find p (map f (range_with_len (a + 1) n)))) here
    ∙ find_none p f (a + 1) n (λ i h. ap (λ k. p (f k)) (further i) ∙ fail (suc i) (omega arith))

-- one passes where any does
find_some : (p : ℕ → Bool) (f : ℕ → ℕ) (xs : List ℕ) (i : ℕ) → i < length xs → p (f (get_or xs i 0)) ≡ true → (x : ℕ) × (find p (map f xs) ≡ Some (f x)) × (p (f x) ≡ true)
find_some p f [] i within passes = absurd (omega arith)
find_some p f (x ∷ xs) zero within passes = (x, ap (λ b. cond b (Some (f x)) (find p (map f xs))) passes, passes)
find_some p f (x ∷ xs) (suc i) within passes =
    elim (p (f x)) as (λ (b : Bool). p (f x) ≡ b → (y : ℕ) × (find p (map f (x ∷ xs)) ≡ Some (f y)) × (p (f y) ≡ true)) [
      | true ↦ λ e. (x, ap (λ b. cond b (Some (f x)) (find p (map f xs))) e, e)
      | false ↦ λ e. let rest = find_some p f xs i (omega arith) passes in (rest.0, ap (λ b. cond b (Some (f x)) (find p (map f xs))) e ∙ rest.1, rest.2)
    ] refl

-- the first place that is free, where those before it are taken
pub first_at : (places : Places) (offset skip j : ℕ) → j < 251 → ArePassed places offset skip j → is_free places (preferred_place offset skip j) ≡ true → first_free places offset skip ≡ Some (preferred_place offset skip j)
unfolding first_free
first_at places offset skip j within passed free =
    let from : (i : ℕ) → 0 + i ≡ i = λ i. omega arith in
    find_at (is_free places) (preferred_place offset skip) 0 251 j within
    (λ i h. ap (λ k. is_free places (preferred_place offset skip k)) (from i) ∙ passed i h)
    (ap (λ k. is_free places (preferred_place offset skip k)) (from j) ∙ free)
    ∙ ap (λ k. Some (preferred_place offset skip k)) (from j)

-- all are taken
pub first_none : (places : Places) (offset skip : ℕ) → ArePassed places offset skip 251 → first_free places offset skip ≡ None
unfolding first_free
first_none places offset skip passed =
    let from : (i : ℕ) → 0 + i ≡ i = λ i. omega arith in
    find_none (is_free places) (preferred_place offset skip) 0 251 (λ i h. ap (λ k. is_free places (preferred_place offset skip k)) (from i) ∙ passed i h)

-- a place that is taken stays taken
pub stays_taken : (places : Places) (at : Option ℕ) (backend place : ℕ) → is_free places place ≡ false → is_free (with_taken places at backend) place ≡ false
stays_taken places None backend place taken = taken
stays_taken places (Some at) backend place taken =
    elim (cases_lt at (length places)) [
      | inl within ↦ grind (arith, common_steps)
      | inr past ↦ grind (arith, common_steps)
    ]

-- the place that is passed last is the one that is taken
pub passed_more : (places : Places) (offset skip j backend : ℕ) → j < 251 → length places ≡ 251 → ArePassed places offset skip j → ArePassed (set places (preferred_place offset skip j) (Some backend)) offset skip (j + 1)
passed_more places offset skip j backend within long passed i below =
    elim (cases_lt i j) [
      | inl before ↦ stays_taken places (Some (preferred_place offset skip j)) backend (preferred_place offset skip i) (passed i before)
      | inr last ↦
          let same : i ≡ j = omega arith in
          let fits : preferred_place offset skip j < length places = omega arith in
          ap (λ k. is_free (set places (preferred_place offset skip j) (Some backend)) (preferred_place offset skip k)) same
          ∙ ap is_none (get_or-set_same places (preferred_place offset skip j) (Some backend) None fits)
    ]

-- where a place is free, the search finds one
pub found_free : (places : Places) (offset skip place : ℕ) → 0 < skip → skip ≤ 250 → place < 251 → is_free places place ≡ true → (j : ℕ) × (first_free places offset skip ≡ Some (preferred_place offset skip j)) × (is_free places (preferred_place offset skip j) ≡ true)
unfolding first_free
found_free places offset skip place some few within free =
    let at = reached offset skip place some few within in
    let here : preferred_place offset skip (get_or (range_with_len 0 251) at.0 0) ≡ place =
    ap (preferred_place offset skip) (get_or-range_with_len 0 251 at.0 0 at.1 ∙ (let e : 0 + at.0 ≡ at.0 = omega arith in e)) ∙ at.2 in
    let long : length (range_with_len 0 251) ≡ 251 = length-range_with_len 0 251 in
    find_some (is_free places) (preferred_place offset skip) (range_with_len 0 251) at.0 (omega arith) (ap (is_free places) here ∙ free)
