-- The outputs of a tenant: the distinct ones of its groups, each a name, and each leaf group has one of them.
use Rattle.std.proofs.Common.{◌≡◌, ◌∙◌, ◌<◌, ◌≤◌, ◌+◌, Bool, true, false, ◌&&◌, cond, ℕ, suc, List, [], ◌∷◌, ◌++◌, length, map, flat_map, Option, Some, None, unwrap_or, nat_lt, nat_le, refl, ap, ap₂, sym, arith, length-append}
use Rattle.std.proofs.lemmas.Bool.{and_parts, lt-ltb}
use Rattle.std.proofs.lemmas.List.{length-map, map-append}
use Rattle.std.proofs.lemmas.List.Quantifiers.{position-Some}
use Rattle.std.proofs.lemmas.List.Folds.{list_all-append}
use Rattle.std.specs.List.{list_all, position}
use Rattle.std.specs.Str.{bytes_eq}
use Rattle.brick_spec.specs.Name.{is_name}
use Rattle.chain_spec.specs.ChainSet.{Chain, Group, Leaf, Output, Inner, NamedLeaf, NamedBelow, Into, Within, NamedGroup, with_name, distinct_after, distinct_of, are_distinct, place_of, is_between, is_below_right, is_named_below_right, leaves_in, outputs_below, outputs_of, leaf_with, below_with, group_with}
use Rattle.chain_spec.proofs.Lists.{both, with_distinct, with_some, all_with}

abbrev Names : Type 0
Names = List (List ℕ)

-- DISTINCT ONES

after_distinct : (before ns : Names) → are_distinct before ≡ true → are_distinct (distinct_after before ns) ≡ true
after_distinct before [] h = h
after_distinct before (n ∷ ns) h = after_distinct (with_name before n) ns (with_distinct before n h)

pub distinct_of_distinct : (ns : Names) → are_distinct (distinct_of ns) ≡ true
distinct_of_distinct ns = after_distinct [] ns refl

after_all : (p : List ℕ → Bool) (before ns : Names) → list_all p before ≡ true → list_all p ns ≡ true → list_all p (distinct_after before ns) ≡ true
after_all p before [] h k = h
after_all p before (n ∷ ns) h k =
    let parts = and_parts (p n) (list_all p ns) k in
    after_all p (with_name before n) ns (all_with p before n h parts.0) parts.1

pub distinct_of_all : (p : List ℕ → Bool) (ns : Names) → list_all p ns ≡ true → list_all p (distinct_of ns) ≡ true
distinct_of_all p ns h = after_all p [] ns refl h

after_some : (before ns : Names) → 0 < length before → 0 < length (distinct_after before ns)
after_some before [] h = h
after_some before (n ∷ ns) h = after_some (with_name before n) ns (with_some before n)

pub distinct_of_some : (ns : Names) → 0 < length ns → 0 < length (distinct_of ns)
distinct_of_some [] h = h
distinct_of_some (n ∷ ns) h = after_some (with_name [] n) ns (with_some [] n)

pub after_append : (before xs ys : Names) → distinct_after before (xs ++ ys) ≡ distinct_after (distinct_after before xs) ys
after_append before [] ys = refl
after_append before (x ∷ xs) ys = after_append (with_name before x) xs ys

-- PLACES

-- the place of a name is below the number of names
place_below : (p : List ℕ → Bool) (ns : Names) (o : Option ℕ) → position p ns ≡ o → 0 < length ns → nat_lt (unwrap_or o 0) (length ns) ≡ true
place_below p ns None e some = lt-ltb 0 (length ns) some
place_below p ns (Some k) e some = lt-ltb k (length ns) (position-Some p ns k [] e).0

pub place_there : (ns : Names) (n : List ℕ) → 0 < length ns → nat_lt (place_of ns n) (length ns) ≡ true
place_there ns n some = place_below (λ m. bytes_eq m n) ns (position (λ m. bytes_eq m n) ns) refl some

-- LEAF GROUPS with the places of their outputs

-- each of these places is below n
module _ (outs : Names) (n : ℕ) (there : (name : List ℕ) → nat_lt (place_of outs name) n ≡ true) where
  leaves_there : (leaves : List NamedLeaf) → list_all (λ o. nat_lt o n) (map (λ l. l.output) (map (leaf_with outs) leaves)) ≡ true
  leaves_there [] = refl
  leaves_there (l ∷ leaves) = both (nat_lt (place_of outs l.into) n) _ (there l.into) (leaves_there leaves)

  below_there : (g : NamedGroup) → list_all (λ o. nat_lt o n) (map (λ l. l.output) (leaves_in (group_with outs g) (below_with outs g.below))) ≡ true
  below_there g = by g.below
    where
      by : (below : NamedBelow) → list_all (λ o. nat_lt o n) (map (λ l. l.output) (leaves_in (group_with outs g) (below_with outs below))) ≡ true
      by (Into name) = both (nat_lt (place_of outs name) n) true (there name) refl
      by (Within leaves) = leaves_there leaves

  pub groups_there : (groups : List NamedGroup) → list_all (λ o. nat_lt o n) (map (λ l. l.output) (flat_map (λ g. leaves_in g g.below) (map (group_with outs) groups))) ≡ true
  groups_there [] = refl
  groups_there (g ∷ groups) =
      let here = leaves_in (group_with outs g) (below_with outs g.below) in
      let rest = flat_map (λ g. leaves_in g g.below) (map (group_with outs) groups) in
      ap (list_all (λ o. nat_lt o n)) (map-append (λ l. l.output) here rest)
      ∙ list_all-append (λ o. nat_lt o n) (map (λ l. l.output) here) (map (λ l. l.output) rest)
      ∙ both _ _ (below_there g) (groups_there groups)

-- the groups in a group keep their names
leaf_names : (outs : Names) (leaves : List NamedLeaf) → map (λ l. l.name) (map (leaf_with outs) leaves) ≡ map (λ l. l.name) leaves
leaf_names outs [] = refl
leaf_names outs (l ∷ leaves) = ap (λ ns. l.name ∷ ns) (leaf_names outs leaves)

pub below_right : (outs : Names) (below : NamedBelow) → is_named_below_right below ≡ true → is_below_right (below_with outs below) ≡ true
below_right outs (Into name) h = refl
below_right outs (Within leaves) h =
    let parts = and_parts (is_between 1 4 (length leaves) && are_distinct (map (λ l. l.name) leaves)) (list_all is_name (map (λ l. l.into) leaves)) h in
    ap₂ (λ (n : ℕ) (ns : Names). is_between 1 4 n && are_distinct ns) (length-map leaves (leaf_with outs)) (leaf_names outs leaves) ∙ parts.0

-- OUTPUTS OF GROUPS

below_named : (below : NamedBelow) → is_named_below_right below ≡ true → list_all is_name (outputs_below below) ≡ true
below_named (Into name) h = both (is_name name) true h refl
below_named (Within leaves) h = (and_parts (is_between 1 4 (length leaves) && are_distinct (map (λ l. l.name) leaves)) (list_all is_name (map (λ l. l.into) leaves)) h).1

below_some : (below : NamedBelow) → is_named_below_right below ≡ true → 0 < length (outputs_below below)
below_some (Into name) h = omega arith
below_some (Within []) h = cc
below_some (Within (l ∷ leaves)) h = omega arith

are_named : (groups : List NamedGroup) → list_all (λ g. is_named_below_right g.below) groups ≡ true → list_all is_name (flat_map (λ g. outputs_below g.below) groups) ≡ true
are_named [] h = refl
are_named (g ∷ groups) h =
    let parts = and_parts (is_named_below_right g.below) (list_all (λ g. is_named_below_right g.below) groups) h in
    list_all-append is_name (outputs_below g.below) (flat_map (λ g. outputs_below g.below) groups) ∙ both _ _ (below_named g.below parts.0) (are_named groups parts.1)

pub outputs_named : (groups : List NamedGroup) → list_all (λ g. is_named_below_right g.below) groups ≡ true → list_all is_name (outputs_of groups) ≡ true
outputs_named groups h = distinct_of_all is_name (flat_map (λ g. outputs_below g.below) groups) (are_named groups h)

pub outputs_distinct : (groups : List NamedGroup) → are_distinct (outputs_of groups) ≡ true
outputs_distinct groups = distinct_of_distinct (flat_map (λ g. outputs_below g.below) groups)

pub outputs_some : (groups : List NamedGroup) → list_all (λ g. is_named_below_right g.below) groups ≡ true → 0 < length groups → 0 < length (outputs_of groups)
outputs_some [] h some = some
outputs_some (g ∷ groups) h some =
    let parts = and_parts (is_named_below_right g.below) (list_all (λ g. is_named_below_right g.below) groups) h in
    let here = below_some g.below parts.0 in
    distinct_of_some (outputs_below g.below ++ flat_map (λ g. outputs_below g.below) groups)
    (omega (arith, length-append (outputs_below g.below) (flat_map (λ g. outputs_below g.below) groups)))
