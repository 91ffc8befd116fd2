-- How many places each backend has.
use Rattle.std.proofs.Common.{◌≡◌, ℕ, zero, suc, ◌+◌, ◌*◌, ◌%◌, ◌<◌, ◌≤◌, Bool, true, false, cond, eqb, ltb, refl, sym, ◌∙◌, ap, arith, inl, inr, ⊎_elim, get_or, List, [], ◌∷◌, length, Option, Some, None, map, set, sum}
use Rattle.std.specs.List.{range_with_len, count_by}
use Rattle.std.specs.Option.{is_none}
use Rattle.std.proofs.lemmas.List.Folds.{sum_by-replicate}
use Rattle.std.proofs.lemmas.List.Sums.{sum_by-set, sum_by-cons}
use Rattle.std.proofs.lemmas.Bool.{cases_lt}
use Rattle.std.proofs.lemmas.Bool.Decides.{nat_tests}
use Rattle.std.proofs.lemmas.Nat.{mod_below, mod-mul-add, same_from_place}
use Rattle.std.proofs.Math.Path.{fun_ext}
use Rattle.brick_spec.specs.Balance.{Places, is_free, turns, all_free, balance_table, backend_in, share_in}
use Rattle.lb_maglev.proofs.TurnLemmas.{turn_place, turn_takes, turns_end, length-balance_table}

has : ℕ → Option ℕ → Bool
has backend None = false
has backend (Some b) = eqb b backend

had_count : ℕ → Places → ℕ
had_count backend places = count_by (has backend) places

-- a cell that is free
none_there : (cell : Option ℕ) → is_none cell ≡ true → cell ≡ None
none_there None e = refl
none_there (Some b) e = cc

had_more : (places : Places) (place b backend : ℕ) → place < length places → is_free places place ≡ true → had_count backend (set places place (Some b)) ≡ had_count backend places + cond (eqb b backend) 1 0
unfolding had_count has
had_more places place b backend within free =
    let e = sum_by-set (λ (cell : Option ℕ). cond (has backend cell) 1 0) places place (Some b) None within in
    let here : ℕ = cond (has backend (get_or places place None)) 1 0 in
    let none : here ≡ 0 = ap (λ (cell : Option ℕ). cond {A = ℕ} (has backend cell) 1 0) (none_there (get_or places place None) free) in
    omega (arith, e, none)

-- how many of the first k turns are a backend's
given : ℕ → ℕ → ℕ → ℕ
given n b zero = 0
given n b (suc k) = given n b k + cond (eqb (k % n) b) 1 0

had_given : (names : List (List ℕ)) (b k : ℕ) → k ≤ 251 → had_count b (turns names k) ≡ given (length names) b k
unfolding turns all_free had_count has given
had_given names b zero few = sum_by-replicate (λ (cell : Option ℕ). cond (has b cell) 1 0) 251 None
had_given names b (suc k) few =
    let before = had_given names b k (omega arith) in
    let t = turn_place names k (omega arith) in
    ap (had_count b) (turn_takes (turns names k) (get_or names (k % length names) []) (k % length names) t)
    ∙ had_more (turns names k) t.place (k % length names) b t.within t.free
    ∙ ap (λ m. m + cond {A = ℕ} (eqb (k % length names) b) 1 0) before

in_round : (g q r b m : ℕ) → g ≡ q + cond (ltb b r) 1 0 → m ≡ r → g + cond (eqb m b) 1 0 ≡ q + cond (ltb b (r + 1)) 1 0
in_round g q r b m e left = grind (arith, nat_tests)

ends_round : (g q r b m n : ℕ) → g ≡ q + cond (ltb b r) 1 0 → m ≡ r → b < n → n ≤ r + 1 → g + cond (eqb m b) 1 0 ≡ q + 1 + cond (ltb b 0) 1 0
ends_round g q r b m n e left within full = grind (arith, nat_tests)

-- whole rounds, and one turn more for those who had it in the last
rounds : (n b k : ℕ) → b < n → (q : ℕ) × (r : ℕ) × (k ≡ q * n + r) × (r < n) × (given n b k ≡ q + cond {A = ℕ} (ltb b r) 1 0)
unfolding given
rounds n b zero within = (0, 0, omega arith, omega arith, grind (arith, nat_tests))
rounds n b (suc k) within =
    let before = rounds n b k within in
    let q : ℕ = before.0 in
    let r : ℕ = before.1 in
    let left : k % n ≡ r = ap (λ m. m % n) before.2 ∙ mod-mul-add q n r before.3 in
    ⊎_elim
    (λ more. (q, r + 1, omega (arith, before.2), more, in_round _ q r b _ before.4 left))
    (λ full. (q + 1, 0, omega (arith, before.2, before.3), omega arith, ends_round _ q r b _ n before.4 left within full))
    (cases_lt (r + 1) n)

same_rounds : (n q r p s : ℕ) → q * n + r ≡ p * n + s → r < n → s < n → q ≡ p
same_rounds n q r p s e h k = (same_from_place q r p s n h k e).0

near : (q r s a b x y : ℕ) → x ≡ q + cond (ltb a r) 1 0 → y ≡ q + cond (ltb b s) 1 0 → x ≤ y + 1
near q r s a b x y e f = grind (arith, nat_tests)

given_even : (n a b k : ℕ) → a < n → b < n → given n a k ≤ given n b k + 1
given_even n a b k h h' =
    let x = rounds n a k h in
    let y = rounds n b k h' in
    let same : y.0 ≡ x.0 = same_rounds n y.0 y.1 x.0 x.1 (sym y.2 ∙ x.2) y.3 x.3 in
    near x.0 x.1 y.1 a b _ _ x.4 (y.4 ∙ ap (λ q. q + cond {A = ℕ} (ltb b y.1) 1 0) same)

-- no turn is that of a backend past the list
given_other : (n b k : ℕ) → 0 < n → n ≤ b → given n b k ≡ 0
unfolding given
given_other n b zero some past = refl
given_other n b (suc k) some past =
    let before = given_other n b k some past in
    let below = mod_below k n some in
    grind (arith, nat_tests)

sum-cons : (x : ℕ) (xs : List ℕ) → sum (x ∷ xs) ≡ x + sum xs
sum-cons x xs = sum_by-cons (λ (n : ℕ). n) x xs

marks : ℕ → ℕ → ℕ → List ℕ
marks m a n = map (λ b. cond {A = ℕ} (eqb m b) 1 0) (range_with_len a n)

sum_plus : (f g : ℕ → ℕ) (xs : List ℕ) → sum (map (λ b. f b + g b) xs) ≡ sum (map f xs) + sum (map g xs)
sum_plus f g [] = refl
sum_plus f g (x ∷ xs) = omega (arith, sum_plus f g xs, sum-cons (f x + g x) (map (λ b. f b + g b) xs), sum-cons (f x) (map f xs), sum-cons (g x) (map g xs))

none_here : (m a n : ℕ) → m < a → sum (marks m a n) ≡ 0
unfolding marks
none_here m a zero below = refl
none_here m a (suc n) below =
    let rest = none_here m (a + 1) n (omega arith) in
    let here : ℕ = cond {A = ℕ} (eqb m a) 1 0 in
    let none : here ≡ 0 = grind (arith, nat_tests) in
    sum-cons here (marks m (a + 1) n) ∙ omega (arith, rest, none)

one_here : (m a n : ℕ) → a ≤ m → m < a + n → sum (marks m a n) ≡ 1
unfolding marks
one_here m a zero from below = absurd (omega arith)
one_here m a (suc n) from below =
    let here : ℕ = cond {A = ℕ} (eqb m a) 1 0 in
    ⊎_elim
    (λ before. let rest = one_here m (a + 1) n (omega arith) (omega arith) in let none : here ≡ 0 = grind (arith, nat_tests) in sum-cons here (marks m (a + 1) n) ∙ omega (arith, rest, none))
    (λ at. let rest = none_here m (a + 1) n (omega arith) in let one : here ≡ 1 = grind (arith, nat_tests) in sum-cons here (marks m (a + 1) n) ∙ omega (arith, rest, one))
    (cases_lt a m)

all_zero : (xs : List ℕ) → sum (map (λ (b : ℕ). 0) xs) ≡ 0
all_zero [] = refl
all_zero (x ∷ xs) = omega (arith, all_zero xs)

-- each turn is that of one backend
given_whole : (n k : ℕ) → 0 < n → sum (map (λ b. given n b k) (range_with_len 0 n)) ≡ k
unfolding given marks
given_whole n zero some = all_zero (range_with_len 0 n)
given_whole n (suc k) some =
    let plus = sum_plus (λ b. given n b k) (λ b. cond {A = ℕ} (eqb (k % n) b) 1 0) (range_with_len 0 n) in
    let before = given_whole n k some in
    let one = one_here (k % n) 0 n (omega arith) (let below = mod_below k n some in omega arith) in
    omega (arith, plus, before, one)

had_share : (table : List ℕ) (b : ℕ) → had_count b (map (λ c. Some c) table) ≡ share_in table b
unfolding had_count has
had_share [] b = refl
had_share (c ∷ table) b =
    sum_by-cons (λ (cell : Option ℕ). cond {A = ℕ} (has b cell) 1 0) (Some c) (map (λ d. Some d) table)
    ∙ ap (λ n. cond {A = ℕ} (eqb c b) 1 0 + n) (had_share table b)
    ∙ sym (sum_by-cons (λ (d : ℕ). cond {A = ℕ} (eqb d b) 1 0) c table)

-- a backend has as many places as it had turns
share_given : (names : List (List ℕ)) (b : ℕ) → share_in (balance_table names) b ≡ given (length names) b 251
share_given names b = sym (had_share (balance_table names) b) ∙ ap (had_count b) (sym (turns_end names)) ∙ had_given names b 251 (omega arith)

pub shares_even : (names : List (List ℕ)) (a b : ℕ) → a < length names → b < length names → share_in (balance_table names) a ≤ share_in (balance_table names) b + 1
shares_even names a b h k =
    let x = share_given names a in
    let y = share_given names b in
    let even = given_even (length names) a b 251 h k in
    omega arith

pub shares_whole : (names : List (List ℕ)) → 0 < length names → sum (map (share_in (balance_table names)) (range_with_len 0 (length names))) ≡ 251
shares_whole names some =
    ap (λ (f : ℕ → ℕ). sum (map f (range_with_len 0 (length names)))) (fun_ext (λ b. share_given names b))
    ∙ given_whole (length names) 251 some

pub share_other : (names : List (List ℕ)) (b : ℕ) → 0 < length names → length names ≤ b → share_in (balance_table names) b ≡ 0
share_other names b some past = share_given names b ∙ given_other (length names) b 251 some past

-- the backend of a place has a share
has_share : (table : List ℕ) (place : ℕ) → place < length table → 0 < share_in table (get_or table place 0)
has_share [] place within = absurd (omega arith)
has_share (c ∷ table) zero within =
    let e = sum_by-cons (λ (d : ℕ). cond {A = ℕ} (eqb d c) 1 0) c table in
    let one : cond {A = ℕ} (eqb c c) 1 0 ≡ 1 = grind (arith, nat_tests) in
    omega (arith, e, one)
has_share (c ∷ table) (suc place) within =
    let rest = has_share table place (omega arith) in
    let e = sum_by-cons (λ (d : ℕ). cond {A = ℕ} (eqb d (get_or table place 0)) 1 0) c table in
    omega (arith, e, rest)

-- each hash leads to a backend of the list
pub backend_within : (names : List (List ℕ)) (hash : ℕ) → 0 < length names → backend_in (balance_table names) hash < length names
backend_within names hash some =
    let long = length-balance_table names in
    let share = has_share (balance_table names) (hash % 251) (omega arith) in
    elim (cases_lt (backend_in (balance_table names) hash) (length names)) [
      | inl within ↦ within
      | inr past ↦ let none = share_other names (backend_in (balance_table names) hash) some past in absurd (omega arith)
    ]
