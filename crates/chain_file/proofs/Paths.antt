-- The paths of a tenant: a stage `nat` on one, and the stages `window` of each.
use Rattle.std.proofs.Common.{◌≡◌, ◌∙◌, ◌<◌, ◌≤◌, ◌+◌, Bool, true, false, cond, ◌&&◌, ◌||◌, ℕ, List, [], ◌∷◌, ◌++◌, length, drop, get_or, map, count_by, nat_le, refl, ap, sym, arith}
use Rattle.std.specs.List.{list_any, list_all}
use Rattle.std.proofs.lemmas.List.{drop_more}
use Rattle.std.proofs.lemmas.List.Sums.{sum_by-append}
use Rattle.std.proofs.lemmas.List.Folds.{list_any-append, list_all-append}
use Rattle.chain_spec.specs.ChainSet as spec
use Rattle.chain_spec.specs.ChainSet.{is_nat, is_window, windows_in, paths_below, paths_through}
use Rattle.chain_types.specs.StageView.{stage_view, stages_view}
use Rattle.chain_types.specs.declared.stage.Stage.{Stage}

pub any_pair : (xs ys : List spec.Stage) → list_any is_nat (xs ++ ys) ≡ (list_any is_nat xs || list_any is_nat ys)
any_pair xs ys = list_any-append is_nat xs ys

pub any_triple : (xs ys zs : List spec.Stage) → list_any is_nat ((xs ++ ys) ++ zs) ≡ (list_any is_nat (xs ++ ys) || list_any is_nat zs)
any_triple xs ys zs = list_any-append is_nat (xs ++ ys) zs

pub any_through : (stages : List spec.Stage) (g : spec.Group) (groups : List spec.Group)
    → list_any (list_any is_nat) (paths_through stages (g ∷ groups)) ≡ (list_any (list_any is_nat) (paths_below (stages ++ g.stages) g.below) || list_any (list_any is_nat) (paths_through stages groups))
any_through stages g groups = list_any-append (list_any is_nat) (paths_below (stages ++ g.stages) g.below) (paths_through stages groups)

pub all_through : (stages : List spec.Stage) (g : spec.Group) (groups : List spec.Group)
    → list_all (λ path. nat_le (windows_in path) 1) (paths_through stages (g ∷ groups))
    ≡ (list_all (λ path. nat_le (windows_in path) 1) (paths_below (stages ++ g.stages) g.below) && list_all (λ path. nat_le (windows_in path) 1) (paths_through stages groups))
all_through stages g groups = list_all-append (λ path. nat_le (windows_in path) 1) (paths_below (stages ++ g.stages) g.below) (paths_through stages groups)

-- WINDOWS of lists behind one another

abbrev one_of : Bool → ℕ
one_of b = cond b 1 0

zero_plus : (n : ℕ) → 0 + n ≡ n
zero_plus n = omega arith

grouped : (a b c : ℕ) → a + (b + c) ≡ (a + b) + c
grouped a b c = omega arith

pub windows_pair : (xs ys : List spec.Stage) → windows_in (xs ++ ys) ≡ windows_in xs + windows_in ys
windows_pair xs ys = sum_by-append (λ x. one_of (is_window x)) xs ys

windows_more : (x : spec.Stage) (xs : List spec.Stage) → windows_in (x ∷ xs) ≡ one_of (is_window x) + windows_in xs
windows_more x xs = windows_pair (x ∷ []) xs ∙ ap (λ n. n + windows_in xs) (zero_plus (one_of (is_window x)))

pub windows_triple : (xs ys zs : List spec.Stage) → windows_in ((xs ++ ys) ++ zs) ≡ (windows_in xs + windows_in ys) + windows_in zs
windows_triple xs ys zs = windows_pair (xs ++ ys) zs ∙ ap (λ n. n + windows_in zs) (windows_pair xs ys)

-- one more stage of a list
pub window_step : (xs : List Stage) (i : ℕ) (x : Stage) → i < length xs → x ≡ get_or xs i x
    → windows_in (stages_view (drop i xs)) ≡ one_of (is_window (stage_view x)) + windows_in (stages_view (drop (i + 1) xs))
window_step xs i x lt at =
    ap (λ (ys : List Stage). windows_in (stages_view ys)) (drop_more xs i x lt ∙ ap (λ y. y ∷ drop (i + 1) xs) (sym at))
    ∙ windows_more (stage_view x) (stages_view (drop (i + 1) xs))

-- the count after one more stage
pub window_done : (xs : List Stage) (i : ℕ) (x : Stage) (n m total : ℕ) → i < length xs → x ≡ get_or xs i x
    → m ≡ n + one_of (is_window (stage_view x))
    → (n + windows_in (stages_view (drop i xs)) ≡ total) × (n ≤ i) → (m + windows_in (stages_view (drop (i + 1) xs)) ≡ total) × (m ≤ i + 1)
window_done xs i x n m total lt at e so = (
  ap (λ k. k + windows_in (stages_view (drop (i + 1) xs))) e ∙ sym (grouped n (one_of (is_window (stage_view x))) (windows_in (stages_view (drop (i + 1) xs))))
      ∙ ap (λ k. n + k) (sym (window_step xs i x lt at)) ∙ so.0,
  few (is_window (stage_view x)) e,
)
  where
    few : (b : Bool) → m ≡ n + one_of b → m ≤ i + 1
    few true f = let below = so.1 in omega (arith, f, below)
    few false f = let below = so.1 in omega (arith, f, below)
