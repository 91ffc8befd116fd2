-- In a table, whose keys ascend, the first key that the row does not have is the least.
use Rattle.std.proofs.Common.{◌≡◌, ◌∙◌, true, false, cond, List, [], ◌∷◌, Option, Some, None, String, Global, Less, string_bytes, refl, ap}
use Rattle.std.specs.List.{AllByRecursion}
use Rattle.std.specs.List.Sorted.{IsStrictlySortedBy}
use Rattle.std.specs.Map.{keys_of}
use Rattle.std.specs.String.{string_cmp}
use Rattle.toml.specs.View.{members_view}
use Rattle.toml.proofs.Views.{Entry}
use Rattle.chain_spec.specs.ChainSet.{is_among}
use Rattle.chain_spec.specs.Fields.{Text, lesser, stranger}

-- the first such key
abbrev pub first : List Text → List Entry → Option Text
first row [] = None
first row (e ∷ es) = cond (is_among (string_bytes e.0) row) (first row es) (Some (string_bytes e.0))

-- a key below all keys is the lesser
below : (row : List Text) (k : String Global) (es : List Entry) → AllByRecursion (λ y. string_cmp k y ≡ Less) (keys_of es)
    → lesser (string_bytes k) (first row es) ≡ string_bytes k
below row k [] h = refl
below row k (e ∷ es) h =
    elim (is_among (string_bytes e.0) row) as (λ b. lesser (string_bytes k) (cond b (first row es) (Some (string_bytes e.0))) ≡ string_bytes k) [
      | true ↦ below row k es h.1
      | false ↦ rw h.0 refl
    ]

pub first_is_least : (row : List Text) (es : List Entry) → IsStrictlySortedBy string_cmp (keys_of es) → stranger row (members_view es) ≡ first row es
unfolding IsStrictlySortedBy
first_is_least row [] h = refl
first_is_least row (e ∷ es) h =
    let rest = first_is_least row es h.1 in
    elim (is_among (string_bytes e.0) row) as (λ b. cond b (stranger row (members_view es)) (Some (lesser (string_bytes e.0) (stranger row (members_view es))))
    ≡ cond b (first row es) (Some (string_bytes e.0))) [
      | true ↦ rest
      | false ↦ ap Some (ap (lesser (string_bytes e.0)) rest ∙ below row e.0 es h.0)
    ]
