-- One turn of a loop over an array, on lists alone, for any step.
use Rattle.std.proofs.Common.{◌≡◌, ◌<◌, ◌≤◌, ◌+◌, ℕ, suc, List, [], ◌∷◌, ◌++◌, length, drop, get_or, Result, Ok, Err, refl, ap, sym, ◌∙◌, drop_of_length-le}
use Rattle.toml.specs.declared.value.Value.{Value}
use Rattle.toml.specs.Data.{Data, item}
use Rattle.toml.specs.View.{view, items_view}
use Rattle.toml.proofs.Views.{items_view-drop}
use Rattle.chain_spec.specs.ChainFault as spec
use Rattle.chain_spec.specs.ChainFault.{◌>>=◌}
use Rattle.chain_spec.specs.Fields.{each_after, count}
use Rattle.chain_text.specs.declared.fault.ChainFault.{ChainFault}
use Rattle.chain_text.specs.Gives.{Fails, seen}
use Rattle.chain_text.proofs.Trees.{IfSome-weaker}

pub count_view : (vs : List Value) → count (items_view vs) ≡ length vs
count_view [] = refl
count_view (v ∷ vs) = ap suc (count_view vs)

-- a step on what is done and a member
abbrev pub Step : Type 0 → Type 0
Step A = List A → Data → Result A spec.ChainFault

abbrev pub Walked : Type 0 → Type 0
Walked A = Result (List A) spec.ChainFault

-- the items from i on begin with that at i
items_at : {A : Type 0} (step : Step A) (before : List A) (xs : List Value) (i : ℕ) (v : Value) (all : Walked A) → i < length xs → v ≡ get_or xs i v
    → each_after step before (items_view (drop i xs)) ≡ all → each_after step before (item (view v) (items_view (drop (i + 1) xs))) ≡ all
items_at step before xs i v all lt at same =
    ap (λ (w : Value). each_after step before (item (view w) (items_view (drop (i + 1) xs)))) at
    ∙ sym (ap (each_after step before) (items_view-drop xs i v lt)) ∙ same

-- the step gives a value
pub goes_on : {A : Type 0} (step : Step A) (before : List A) (x : A) (xs : List Value) (i : ℕ) (v : Value) (all : Walked A) → i < length xs → v ≡ get_or xs i v
    → step before (view v) ≡ Ok x
    → each_after step before (items_view (drop i xs)) ≡ all → each_after step (before ++ x ∷ []) (items_view (drop (i + 1) xs)) ≡ all
unfolding each_after
goes_on {A} step before x xs i v all lt at ok same =
    sym (ap (λ (r : Result A spec.ChainFault). r >>= λ y. each_after step (before ++ y ∷ []) (items_view (drop (i + 1) xs))) ok)
    ∙ items_at step before xs i v all lt at same

-- the step gives a fault
pub leaves : {A : Type 0} (step : Step A) (e : ChainFault) (before : List A) (xs : List Value) (i : ℕ) (v : Value) (all : Walked A) → i < length xs → v ≡ get_or xs i v
    → each_after step before (items_view (drop i xs)) ≡ all → Fails e (step before (view v)) → Fails e all
unfolding each_after
leaves {A} step e before xs i v all lt at same fails =
    IfSome-weaker (seen e) (λ f. step before (view v) ≡ Err f) (λ f. all ≡ Err f)
    (λ f is. sym (items_at step before xs i v all lt at same)
    ∙ ap (λ (r : Result A spec.ChainFault). r >>= λ y. each_after step (before ++ y ∷ []) (items_view (drop (i + 1) xs))) is) fails

-- no member is left
pub ends : {A : Type 0} (step : Step A) (before : List A) (xs : List Value) (i : ℕ) (all : Walked A) → length xs ≤ i
    → each_after step before (items_view (drop i xs)) ≡ all → all ≡ Ok before
unfolding each_after
ends step before xs i all past same = sym same ∙ ap (λ (ys : List Value). each_after step before (items_view ys)) (drop_of_length-le xs past)
