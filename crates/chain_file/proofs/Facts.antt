-- What is true of the groups of a tenant and of their outputs.
use Rattle.std.proofs.Common.{◌≡◌, ◌∙◌, ◌<◌, ◌≤◌, ◌+◌, ◌*◌, Bool, true, false, not, ◌&&◌, ◌||◌, ℕ, List, [], ◌∷◌, ◌++◌, length, map, flat_map, nat_le, nat_lt, Option, Some, None, is_some, Err, le-leb, refl, ap, sym, subst, arith, true≢false, length-append, codes}
use Rattle.std.proofs.lemmas.Bool.{and_parts, leb-true}
use Rattle.std.proofs.lemmas.List.{length-map}
use Rattle.std.specs.List.{list_all, list_any}
use Rattle.brick_spec.specs.Name.{is_name}
use Rattle.brick_spec.specs.FlowClass.{NatPlan}
use Rattle.chain_spec.specs.ChainSet as spec
use Rattle.chain_spec.specs.ChainFault.{Missing}
use Rattle.chain_spec.specs.ChainWalk.{fits}
use Rattle.chain_spec.specs.ChainSet.{NamedBelow, Into, Within, is_named_below_right, is_between, are_distinct, group_with, outputs_of, outputs_below, with_name, distinct_after, leaves_in, chain_of}
use Rattle.chain_spec.proofs.Lists.{both, with_few}
use Rattle.chain_spec.proofs.Outputs.{outputs_some, groups_there, place_there}
use Rattle.chain_types.specs.GroupView.{group_view}
use Rattle.chain_types.specs.declared.group.Group.{Group}
use Rattle.chain_file.specs.NamedView.{named_leaf_view, named_leaves_view, leaf_names}
use Rattle.chain_file.specs.View.{named_view}
use Rattle.chain_file.specs.declared.named_leaf.NamedLeaf.{NamedLeaf}
use Rattle.chain_file.specs.declared.named.NamedGroup.{NamedGroup}

Names : Type 0
Names = List (List ℕ)

pub groups_right : (gs : List NamedGroup) → list_all (λ g. is_named_below_right g.below) (map named_view gs) ≡ true
groups_right [] = refl
groups_right (g ∷ gs) = both _ _ g.below_right (groups_right gs)

pub some_outputs : (gs : List NamedGroup) → 1 ≤ length gs → 0 < length (outputs_of (map named_view gs))
some_outputs gs some = let n = length-map gs named_view in outputs_some (map named_view gs) (groups_right gs) (omega (arith, n))

-- AT MOST 64 OUTPUTS

after_few : (before ns : List (List ℕ)) → length (distinct_after before ns) ≤ length before + length ns
after_few before [] = omega arith
after_few before (n ∷ ns) =
    let one = with_few before n in
    let rest = after_few (with_name before n) ns in
    omega (arith, one, rest)

below_few : (b : NamedBelow) → is_named_below_right b ≡ true → length (outputs_below b) ≤ 4
below_few (Into name) h = omega arith
below_few (Within leaves) h =
    let parts = and_parts (is_between 1 4 (length leaves) && are_distinct (map (λ l. l.name) leaves)) (list_all is_name (map (λ l. l.into) leaves)) h in
    let range = and_parts (is_between 1 4 (length leaves)) (are_distinct (map (λ l. l.name) leaves)) parts.0 in
    let four = leb-true (length leaves) 4 (and_parts (nat_le 1 (length leaves)) (nat_le (length leaves) 4) range.0).1 in
    let n = length-map leaves (λ l. l.into) in
    omega (arith, four, n)

flat_few : (groups : List spec.NamedGroup) → list_all (λ g. is_named_below_right g.below) groups ≡ true → length (flat_map (λ g. outputs_below g.below) groups) ≤ 4 * length groups
flat_few [] h = omega arith
flat_few (g ∷ groups) h =
    let parts = and_parts (is_named_below_right g.below) (list_all (λ g. is_named_below_right g.below) groups) h in
    let here = below_few g.below parts.0 in
    let rest = flat_few groups parts.1 in
    let n = length-append (outputs_below g.below) (flat_map (λ g. outputs_below g.below) groups) in
    omega (arith, here, rest, n)

pub few_outputs : (gs : List NamedGroup) → length gs ≤ 16 → length (outputs_of (map named_view gs)) ≤ 64
few_outputs gs few =
    let all = flat_few (map named_view gs) (groups_right gs) in
    let n = length-map gs named_view in
    let distinct = after_few [] (flat_map (λ g. outputs_below g.below) (map named_view gs)) in
    omega (arith, all, n, distinct, few)

-- NAMES AND OUTPUTS OF GROUPS

kept_names : (outs : List (List ℕ)) (groups : List spec.NamedGroup) → map (λ g. g.name) (map (group_with outs) groups) ≡ map (λ g. g.name) groups
kept_names outs [] = refl
kept_names outs (g ∷ groups) = ap (λ ns. g.name ∷ ns) (kept_names outs groups)

viewed_names : (gs : List Group) → map (λ g. g.name) gs ≡ map (λ g. g.name) (map group_view gs)
viewed_names [] = refl
viewed_names (g ∷ gs) = ap (λ ns. g.name ∷ ns) (viewed_names gs)

pub groups_named : (outs : List (List ℕ)) (gs : List Group) (groups : List spec.NamedGroup) → map group_view gs ≡ map (group_with outs) groups
    → map (λ g. g.name) gs ≡ map (λ g. g.name) groups
groups_named outs gs groups e = viewed_names gs ∙ ap (map (λ g. g.name)) e ∙ kept_names outs groups

pub all_there : (outs : List (List ℕ)) (gs : List Group) (groups : List spec.NamedGroup) → map group_view gs ≡ map (group_with outs) groups → 0 < length outs
    → list_all (λ o. nat_lt o (length outs)) (map (λ l. l.output) (flat_map (λ g. leaves_in g g.below) (map group_view gs))) ≡ true
all_there outs gs groups e some =
    ap (λ (xs : List spec.Group). list_all (λ o. nat_lt o (length outs)) (map (λ l. l.output) (flat_map (λ g. leaves_in g g.below) xs))) e
    ∙ groups_there outs (length outs) (λ n. place_there outs n some) groups

-- a plan, where one is wanted
pub plan_there : (wanted there : Bool) → (wanted && not there) ≡ false → (not wanted || there) ≡ true
plan_there true true e = refl
plan_there true false e = absurd (true≢false e)
plan_there false there e = refl

-- GROUPS IN A GROUP

intos_named : (ls : List NamedLeaf) → list_all is_name (map (λ l. l.into) (named_leaves_view ls)) ≡ true
intos_named [] = refl
intos_named (l ∷ ls) = both _ _ l.into_named (intos_named ls)

between : (n m : ℕ) → 1 ≤ n → n ≤ 4 → m ≡ n → is_between 1 4 m ≡ true
between n m low high e = both (nat_le 1 m) (nat_le m 4) (le-leb 1 m (omega (arith, low, e))) (le-leb m 4 (omega (arith, high, e)))

pub within_right : (ls : List NamedLeaf) → 1 ≤ length ls → length ls ≤ 4 → are_distinct (leaf_names ls) ≡ true → is_named_below_right (Within (named_leaves_view ls)) ≡ true
within_right ls low high distinct =
    both (is_between 1 4 (length (named_leaves_view ls)) && are_distinct (leaf_names ls)) (list_all is_name (map (λ l. l.into) (named_leaves_view ls)))
    (both (is_between 1 4 (length (named_leaves_view ls))) (are_distinct (leaf_names ls)) (between (length ls) (length (named_leaves_view ls)) low high (length-map ls named_leaf_view)) distinct)
    (intos_named ls)

-- A PLAN that is not there

fits_lacks : (place : ℕ) (chain : spec.Chain) → (spec.has_nat chain && not (is_some chain.nat)) ≡ true → fits place chain ≡ Err (Missing place (codes "nat"))
unfolding fits
fits_lacks place chain h = rw h refl

pub lacks_plan : (place : ℕ) (name capture : List ℕ) (settings : spec.Settings) (nat : Option NatPlan) (stages : List spec.Stage) (groups : List spec.NamedGroup)
    → (list_any (list_any spec.is_nat) (spec.paths_through stages (map (group_with (outputs_of groups)) groups)) && not (is_some nat)) ≡ true
    → fits place (chain_of name capture settings nat stages groups) ≡ Err (Missing place (codes "nat"))
unfolding chain_of
lacks_plan place name capture settings nat stages groups h = fits_lacks place (chain_of name capture settings nat stages groups) h
