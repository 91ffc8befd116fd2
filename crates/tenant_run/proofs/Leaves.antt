-- There is a list for each leaf group of a chain.
use Rattle.std.proofs.Common.{◌≡◌, suc, List, [], ◌∷◌, map, length, refl, ap, arith, length-append, Option}
use Rattle.std.specs.List.{flat_map, sum_by}
use Rattle.std.proofs.lemmas.List.Sums.{sum_by-append}
use Rattle.brick_spec.specs.FlowClass.{NatPlan}
use Rattle.flow_spec.specs.Plan.{GroupPlan, leaf_count, leaves_below}
use Rattle.chain_spec.specs.ChainSet.{Chain, Group, Leaf, Below, Output, Inner, leaves_in, leaves_of}
use Rattle.tenant_spec.specs.ChainPlan.{plan_of, group_plan, below_plan, leaf_plan}

in_group : (nat : Option NatPlan) (g : Group) (b : Below) → length (leaves_in g b) ≡ leaves_below (below_plan nat b)
in_group nat g (Output o) = refl
in_group nat g (Inner leaves) = by leaves where
  by : (ls : List Leaf) → length ls ≡ length (map (leaf_plan nat) ls)
  by [] = refl
  by (l ∷ ls) = ap suc (by ls)

in_groups : (nat : Option NatPlan) (gs : List Group) → length (flat_map (λ g. leaves_in g g.below) gs) ≡ sum_by (λ g. leaves_below g.below) (map (group_plan nat) gs)
in_groups nat [] = refl
in_groups nat (g ∷ gs) =
    let one = in_group nat g g.below in
    let rest = in_groups nat gs in
    let front = length-append (leaves_in g g.below) (flat_map (λ g. leaves_in g g.below) gs) in
    let sum = sum_by-append (λ (p : GroupPlan). leaves_below p.below) (group_plan nat g ∷ []) (map (group_plan nat) gs) in
    omega (arith, one, rest, front, sum)

pub leaves_counted : (chain : Chain) → length (leaves_of chain) ≡ leaf_count (plan_of chain)
leaves_counted chain = in_groups chain.nat chain.groups
