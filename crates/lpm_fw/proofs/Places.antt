-- The lists of the parts, by their places.
use Rattle.std.proofs.Common.{◌≡◌, ◌≢◌, ◌∙◌, ℕ, ◌<◌, ◌≤◌, refl, sym, ap, arith, List, [], ◌∷◌, ◌++◌, Some, None, length, Option, map, get_or, inl, inr}
use Rattle.std.specs.List.{slice_set}
use Rattle.std.specs.Global.{Vec}
use Rattle.std.proofs.Math.ListN.{get_or-map, replicate}
use Rattle.std.proofs.lemmas.List.{get_or-replicate, get_or_past, length-replicate, get_or-set_same, get_or-set_other}
use Rattle.std.proofs.lemmas.Bool.{cases_lt}
use Rattle.std.proofs.lemmas.Option.{none-some, slice_get-get_or}
use Rattle.lpm_fw.specs.Parts.{items_of, list_at, rows_in, ArePlaces}

-- the rows inside a part are those of its list
pub rows_at : (places : List (Option ℕ)) (lists : List (Vec ℕ)) (part : ℕ) → rows_in (map (list_at lists) places) part ≡ list_at lists (get_or places part None)
rows_at places lists part = get_or-map (list_at lists) places part None

-- a list, by its place
pub list_of : (lists : List (Vec ℕ)) (n : ℕ) (list : Vec ℕ) → n < length lists → list ≡ get_or lists n list → list.items ≡ list_at lists (Some n)
list_of lists n list within e = ap items_of (sym (slice_get-get_or lists n list within ∙ ap (λ (v : Vec ℕ). Some v) (sym e)))

-- at first no part has a list
none_at : (part : ℕ) → get_or {A = Option ℕ} (replicate 256 None) part None ≡ None
none_at part =
    elim (cases_lt part 256) [
      | inl within ↦ get_or-replicate 256 part None None within
      | inr past ↦ get_or_past (replicate 256 None) part None (let l = length-replicate {A = Option ℕ} 256 None in omega arith)
    ]

pub places_none : ArePlaces (replicate 256 None) []
places_none = record {
  long = length-replicate {A = Option ℕ} 256 None;
  within = λ part n at. absurd (none-some n (sym (none_at part) ∙ at));
  apart = λ part other n at at_other. absurd (none-some n (sym (none_at part) ∙ at));
}

pub rows_none : (part : ℕ) → rows_in (map (list_at []) (replicate 256 None)) part ≡ []
rows_none part = rows_at (replicate 256 None) [] part ∙ ap (list_at []) (none_at part)

-- a row more in a list is inside no other part
pub others_kept : (places : List (Option ℕ)) (lists lists' : List (Vec ℕ)) (part other n : ℕ) → ArePlaces places lists → get_or places part None ≡ Some n → other ≢ part
    → ((m : ℕ) → m ≢ n → list_at lists' (Some m) ≡ list_at lists (Some m)) → rows_in (map (list_at lists') places) other ≡ rows_in (map (list_at lists) places) other
others_kept places lists lists' part other n are at differs kept = rows_at places lists' other ∙ go (get_or places other None) refl ∙ sym (rows_at places lists other)
  where
    go : (place : Option ℕ) → get_or places other None ≡ place → list_at lists' (get_or places other None) ≡ list_at lists (get_or places other None)
    go None e = ap (list_at lists') e ∙ sym (ap (list_at lists) e)
    go (Some m) e = ap (list_at lists') e ∙ kept m (λ same. differs (are.apart other part n (e ∙ ap (λ (k : ℕ). Some k) same) at)) ∙ sym (ap (list_at lists) e)

-- a part's first row
pub first_here : (places : List (Option ℕ)) (lists lists' : List (Vec ℕ)) (part n k : ℕ) → part < length places → get_or places part None ≡ None → list_at lists' (Some n) ≡ k ∷ []
    → rows_in (map (list_at lists') (slice_set places part (Some n))) part ≡ rows_in (map (list_at lists) places) part ++ k ∷ []
first_here places lists lists' part n k within none here =
    rows_at (slice_set places part (Some n)) lists' part ∙ ap (list_at lists') (get_or-set_same places part (Some n) None within) ∙ here
    ∙ ap (λ xs. xs ++ k ∷ []) (sym (rows_at places lists part ∙ ap (list_at lists) none))

pub first_others : (places : List (Option ℕ)) (lists lists' : List (Vec ℕ)) (part other n : ℕ) → ArePlaces places lists → other ≢ part
    → ((m : ℕ) → m < length lists → list_at lists' (Some m) ≡ list_at lists (Some m)) → rows_in (map (list_at lists') (slice_set places part (Some n))) other ≡ rows_in (map (list_at lists) places) other
first_others places lists lists' part other n are differs kept =
    rows_at (slice_set places part (Some n)) lists' other ∙ ap (list_at lists') (get_or-set_other places part other (Some n) None differs) ∙ go (get_or places other None) refl ∙ sym (rows_at places lists other)
  where
    go : (place : Option ℕ) → get_or places other None ≡ place → list_at lists' (get_or places other None) ≡ list_at lists (get_or places other None)
    go None e = ap (list_at lists') e ∙ sym (ap (list_at lists) e)
    go (Some m) e = ap (list_at lists') e ∙ kept m (are.within other m e) ∙ sym (ap (list_at lists) e)
