-- The leaf groups of a chain are those of its plan.
use Rattle.std.proofs.Common.{◌≡◌, ℕ, zero, suc, ◌+◌, List, [], ◌∷◌, map, length, refl, ap, sym, ◌∙◌, arith, length-append, Option}
use Rattle.std.specs.List.{flat_map, sum_by, range_with_len}
use Rattle.std.proofs.lemmas.List.Sums.{sum_by-append}
use Rattle.brick_spec.specs.FlowClass.{NatPlan}
use Rattle.flow_spec.specs.Plan.{GroupPlan, leaf_count, leaves_below}
use Rattle.chain_spec.specs.ChainSet.{Group, Leaf, Below, Output, Inner, leaves_in}
use Rattle.tenant_spec.specs.ChainPlan.{plan_of, group_plan, below_plan, leaf_plan}
use Rattle.work_parts.specs.Merged.{merged_group}
use Rattle.work_parts.specs.Tenants.{MergedHasLeaves}

in_group : (nat : Option NatPlan) (g : Group) (b : Below) → length (leaves_in g b) ≡ leaves_below (below_plan nat b)
in_group nat g (Output o) = refl
in_group nat g (Inner leaves) = by leaves where
  by : (ls : List Leaf) → length ls ≡ length (map (leaf_plan nat) ls)
  by [] = refl
  by (l ∷ ls) = ap suc (by ls)

in_groups : (nat : Option NatPlan) (gs : List Group) → length (flat_map (λ g. leaves_in g g.below) gs) ≡ sum_by (λ g. leaves_below g.below) (map (group_plan nat) gs)
in_groups nat [] = refl
in_groups nat (g ∷ gs) =
    let one = in_group nat g g.below in
    let rest = in_groups nat gs in
    let front = length-append (leaves_in g g.below) (flat_map (λ g. leaves_in g g.below) gs) in
    let sum = sum_by-append (λ (p : GroupPlan). leaves_below p.below) (group_plan nat g ∷ []) (map (group_plan nat) gs) in
    omega (arith, one, rest, front, sum)

long_from : {X : Type 0} (h : ℕ → X) (k m : ℕ) → length (map h (range_with_len k m)) ≡ m
long_from h k zero = refl
long_from h k (suc m) = ap suc (long_from h (k + 1) m)

pub merged_has_leaves : MergedHasLeaves
merged_has_leaves chain answers = long_from (merged_group answers) 0 (leaf_count (plan_of chain)) ∙ sym (in_groups chain.nat chain.groups)
