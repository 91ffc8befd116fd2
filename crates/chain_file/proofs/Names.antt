-- The outputs of one more group, and the first name that is taken.
use Rattle.std.proofs.Common.{◌≡◌, ◌∙◌, ◌<◌, ◌+◌, Bool, true, false, cond, ℕ, List, [], ◌∷◌, ◌++◌, length, drop, get_or, map, flat_map, Option, Some, None, is_some, refl, ap, sym}
use Rattle.std.proofs.lemmas.List.{drop_more}
use Rattle.chain_spec.specs.ChainSet.{is_among, distinct_after, outputs_below, file_names, run_files}
use Rattle.chain_spec.specs.ChainWalk.{first_taken}
use Rattle.chain_spec.proofs.Outputs.{after_append}
use Rattle.chain_types.specs.View.{chain_view}
use Rattle.chain_types.specs.declared.chain.Chain.{Chain}
use Rattle.chain_file.specs.NamedView.{named_below_view}
use Rattle.chain_file.specs.View.{named_view}
use Rattle.chain_file.specs.declared.named.NamedGroup.{NamedGroup}

abbrev Names : Type 0
Names = List (List ℕ)

dropped : {X : Type 0} (xs : List X) (i : ℕ) (x : X) → i < length xs → x ≡ get_or xs i x → drop i xs ≡ x ∷ drop (i + 1) xs
dropped xs i x lt at = drop_more xs i x lt ∙ ap (λ y. y ∷ drop (i + 1) xs) (sym at)

-- the outputs after one more group
pub outputs_step : (before after : Names) (groups : List NamedGroup) (i : ℕ) (g : NamedGroup) (all : Names) → i < length groups → g ≡ get_or groups i g
    → after ≡ distinct_after before (outputs_below (named_below_view g.below))
    → distinct_after before (flat_map (λ x. outputs_below x.below) (map named_view (drop i groups))) ≡ all
    → distinct_after after (flat_map (λ x. outputs_below x.below) (map named_view (drop (i + 1) groups))) ≡ all
outputs_step before after groups i g all lt at e same =
    let rest = flat_map (λ x. outputs_below x.below) (map named_view (drop (i + 1) groups)) in
    ap (λ (ns : Names). distinct_after ns rest) e
    ∙ sym (after_append before (outputs_below (named_below_view g.below)) rest)
    ∙ sym (ap (λ (gs : List NamedGroup). distinct_after before (flat_map (λ x. outputs_below x.below) (map named_view gs))) (dropped groups i g lt at)) ∙ same

-- THE FIRST NAME THAT IS TAKEN

abbrev or_else : Option (List ℕ) → Option (List ℕ) → Option (List ℕ)
or_else None o = o
or_else (Some n) o = Some n

or_else_some : (o p : Option (List ℕ)) → is_some o ≡ true → or_else o p ≡ o
or_else_some None p h = cc
or_else_some (Some n) p h = refl

or_else_none : (o p : Option (List ℕ)) → is_some o ≡ false → or_else o p ≡ p
or_else_none None p h = refl
or_else_none (Some n) p h = cc

taken_append : (taken xs ys : Names) → first_taken taken (xs ++ ys) ≡ or_else (first_taken taken xs) (first_taken taken ys)
taken_append taken [] ys = refl
taken_append taken (x ∷ xs) ys =
    elim (is_among x taken) as (λ b. cond b (Some x) (first_taken taken (xs ++ ys)) ≡ or_else (cond b (Some x) (first_taken taken xs)) (first_taken taken ys)) [
      | true ↦ refl
      | false ↦ taken_append taken xs ys
    ]

-- of a tenant's files, and of those behind them
taken_step : (taken : Names) (out : List ℕ) (chains : List Chain) (i : ℕ) (x : Chain) → i < length chains → x ≡ get_or chains i x
    → first_taken taken (run_files out (map chain_view (drop i chains)))
    ≡ or_else (first_taken taken (file_names out (chain_view x))) (first_taken taken (run_files out (map chain_view (drop (i + 1) chains))))
taken_step taken out chains i x lt at =
    ap (λ (cs : List Chain). first_taken taken (run_files out (map chain_view cs))) (dropped chains i x lt at)
    ∙ taken_append taken (file_names out (chain_view x)) (run_files out (map chain_view (drop (i + 1) chains)))

pub found_here : (taken : Names) (out : List ℕ) (chains : List Chain) (i : ℕ) (x : Chain) (o all : Option (List ℕ)) → i < length chains → x ≡ get_or chains i x
    → first_taken taken (run_files out (map chain_view (drop i chains))) ≡ all
    → o ≡ first_taken taken (file_names out (chain_view x)) → is_some o ≡ true → o ≡ all
found_here taken out chains i x o all lt at same e here =
    let rest = first_taken taken (run_files out (map chain_view (drop (i + 1) chains))) in
    sym (or_else_some o rest here) ∙ ap (λ (p : Option (List ℕ)). or_else p rest) e ∙ sym (taken_step taken out chains i x lt at) ∙ same

pub found_later : (taken : Names) (out : List ℕ) (chains : List Chain) (i : ℕ) (x : Chain) (o all : Option (List ℕ)) → i < length chains → x ≡ get_or chains i x
    → first_taken taken (run_files out (map chain_view (drop i chains))) ≡ all
    → o ≡ first_taken taken (file_names out (chain_view x)) → is_some o ≡ false
    → first_taken taken (run_files out (map chain_view (drop (i + 1) chains))) ≡ all
found_later taken out chains i x o all lt at same e here =
    let rest = first_taken taken (run_files out (map chain_view (drop (i + 1) chains))) in
    sym (or_else_none o rest here) ∙ ap (λ (p : Option (List ℕ)). or_else p rest) e ∙ sym (taken_step taken out chains i x lt at) ∙ same
