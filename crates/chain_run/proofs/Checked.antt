-- Stages that are looked at one by one.
use Rattle.std.proofs.Common.{◌≡◌, ℕ, ◌+◌, ◌<◌, List, [], ◌∷◌, ◌++◌, map, take, get_or, length, Bool, true, false, cond, ap, sym, subst, ◌∙◌, arith}
use Rattle.std.proofs.lemmas.List.{take_more, map-append}
use Rattle.std.proofs.lemmas.List.Sums.{sum_by-append, sum_by-cons}
use Rattle.std.specs.List.{AllByRecursion, sum_by}
use Rattle.chain_spec.specs.ChainSet.{Stage, windows_in, is_window}

pub all_pushed : {X : Type 0} (P : X → Type 0) (xs : List X) (y : X) → AllByRecursion P xs → P y → AllByRecursion P (xs ++ y ∷ [])
all_pushed P [] y h p = (p, tt)
all_pushed P (x ∷ xs) y (h, hs) p = (h, all_pushed P xs y hs p)

pub seen_more : {X Y : Type 0} (view : Y → X) (ys : List Y) (i : ℕ) (y : Y) → i < length ys → y ≡ get_or ys i y → map view (take (i + 1) ys) ≡ map view (take i ys) ++ view y ∷ []
seen_more view ys i y lt is = ap (map view) (take_more ys i y lt) ∙ (map-append view (take i ys) (get_or ys i y ∷ []) ∙ ap (λ z. map view (take i ys) ++ view z ∷ []) (sym is))

pub all_next : {X Y : Type 0} (view : Y → X) (P : X → Type 0) (ys : List Y) (i : ℕ) (y : Y) → i < length ys → y ≡ get_or ys i y → AllByRecursion P (map view (take i ys)) → P (view y) → AllByRecursion P (map view (take (i + 1) ys))
all_next view P ys i y lt is h one = subst (AllByRecursion P) (sym (seen_more view ys i y lt is)) (all_pushed P (map view (take i ys)) (view y) h one)

pub windows_next : {Y : Type 0} (view : Y → Stage) (ys : List Y) (i : ℕ) (y : Y) → i < length ys → y ≡ get_or ys i y → windows_in (map view (take (i + 1) ys)) ≡ windows_in (map view (take i ys)) + cond (is_window (view y)) 1 0
windows_next view ys i y lt is =
    ap windows_in (seen_more view ys i y lt is)
    ∙ (sum_by-append (λ s. cond (is_window s) 1 0) (map view (take i ys)) (view y ∷ []) ∙ ap (λ n. windows_in (map view (take i ys)) + n) (one (is_window (view y)) (sum_by-cons (λ s. cond (is_window s) 1 0) (view y) []))) where
      one : (b : Bool) → sum_by (λ s. cond (is_window s) 1 0) (view y ∷ []) ≡ cond b 1 0 + 0 → sum_by (λ s. cond (is_window s) 1 0) (view y ∷ []) ≡ cond b 1 0
      one true e = e ∙ omega arith
      one false e = e ∙ omega arith
