-- What a put, a take and a write elsewhere make of a ring.
use Rattle.std.proofs.Common.{◌≡◌, ◌≢◌, ◌⊎◌, ℕ, zero, suc, ◌+◌, ◌%◌, ◌<◌, ◌≤◌, List, [], ◌∷◌, ◌++◌, length, get_or, set, sym, refl, ap, ◌∙◌, ⊎_elim, arith, length-append, get_or-set_same, get_or-set_other, mod-lt}
use mathlib.Core.Logic.{dite}
use native.Mathlib.Decide.{ℕ_discrete}
use Rattle.atomic_table.proofs.Lists.{one_turn}
use Rattle.lane_table.specs.Cells.{Cells}

-- two numbers less than n apart, with different remainders
apart : (a b n : ℕ) → a < b → b < a + n → a % n ≢ b % n
apart a b n lt near e = absurd (let is = one_turn a b n (omega arith) near e in omega arith)

get_left : (xs ys : List ℕ) (k : ℕ) → k < length xs → get_or (xs ++ ys) k 0 ≡ get_or xs k 0
get_left [] ys k lt = absurd (omega arith)
get_left (x ∷ xs) ys zero lt = refl
get_left (x ∷ xs) ys (suc k) lt = get_left xs ys k (omega arith)

get_last : (xs : List ℕ) (y k : ℕ) → k ≡ length xs → get_or (xs ++ y ∷ []) k 0 ≡ y
get_last [] y zero e = refl
get_last [] y (suc k) e = absurd (omega arith)
get_last (x ∷ xs) y zero e = absurd (omega arith)
get_last (x ∷ xs) y (suc k) e = get_last xs y k (omega arith)

module _ (n : ℕ) (words : List ℕ) (b : ℕ) (es : List ℕ) (h : ℕ) (p : Cells n words b es h) (some_cell : 0 < n) where
  pub next_free : h ≤ length es → length es < h + n → get_or words (b + length es % n) 0 ≡ 0
  next_free le near = p.empty (length es % n) (mod-lt (length es) some_cell) (λ t from to e. absurd (apart t (length es) n to (omega arith) e))

  pub next_found : h < length es → get_or words (b + h % n) 0 ≡ get_or es h 0
  next_found lt = p.here h (omega arith) lt

  pub none_found : h ≡ length es → get_or words (b + h % n) 0 ≡ 0
  none_found e = p.empty (h % n) (mod-lt h some_cell) (λ t from to _. absurd (omega arith))

  pub put : (x : ℕ) → b + n ≤ length words → h ≤ length es → length es < h + n → Cells n (set words (b + length es % n) x) b (es ++ x ∷ []) h
  put x fits le near = let c : ℕ = length es % n in let small : c < n = mod-lt (length es) some_cell in record {
    here = λ t from to. let long = length-append es (x ∷ []) in dite (ℕ_discrete t (length es))
        (λ e. let i : b + t % n ≡ b + c = ap (λ k. b + k % n) e in ap (λ k. get_or (set words (b + c) x) k 0) i ∙ get_or-set_same words (b + c) x 0 (omega arith) ∙ sym (get_last es x t e))
        (λ ne. let other = apart t (length es) n (omega arith) (omega arith) in get_or-set_other words (b + c) (b + t % n) x 0 (λ e. other (omega arith)) ∙ p.here t from (omega arith) ∙ sym (get_left es (x ∷ []) t (omega arith)));
    empty = λ k lt none. let long = length-append es (x ∷ []) in let not_here : c ≢ k = none (length es) le (omega arith) in
        get_or-set_other words (b + c) (b + k) x 0 (λ e. not_here (omega arith)) ∙ p.empty k lt (λ t from to. none t from (omega arith));
  }

  pub take : b + n ≤ length words → h < length es → length es ≤ h + n → Cells n (set words (b + h % n) 0) b es (suc h)
  take fits lt near = let c : ℕ = h % n in let small : c < n = mod-lt h some_cell in record {
    here = λ t from to. let other = apart h t n (omega arith) (omega arith) in get_or-set_other words (b + c) (b + t % n) 0 0 (λ e. other (omega arith)) ∙ p.here t (omega arith) to;
    empty = λ k lt' none. dite (ℕ_discrete k c)
        (λ e. ap (λ j. get_or (set words (b + c) 0) (b + j) 0) e ∙ get_or-set_same words (b + c) 0 0 (omega arith))
        (λ ne. get_or-set_other words (b + c) (b + k) 0 0 (λ e. ne (omega arith)) ∙ p.empty k lt' (λ t from to. dite (ℕ_discrete t h) (λ e same. ne (sym (sym (ap (λ j. j % n) e) ∙ same))) (λ other. none t (omega arith) to)));
  }

  pub stays : (j x : ℕ) → (j < b) ⊎ (b + n ≤ j) → Cells n (set words j x) b es h
  stays j x out = record {
    here = λ t from to. let small : t % n < n = mod-lt t some_cell in get_or-set_other words j (b + t % n) x 0 (λ e. ⊎_elim (λ (l : j < b). absurd (omega arith)) (λ (l : b + n ≤ j). absurd (omega arith)) out) ∙ p.here t from to;
    empty = λ k lt none. get_or-set_other words j (b + k) x 0 (λ e. ⊎_elim (λ (l : j < b). absurd (omega arith)) (λ (l : b + n ≤ j). absurd (omega arith)) out) ∙ p.empty k lt none;
  }
