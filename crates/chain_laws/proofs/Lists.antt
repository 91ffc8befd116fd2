-- The lists of leaf groups, flow by flow.
use Rattle.std.proofs.Common.{◌≡◌, ℕ, zero, suc, ◌+◌, ◌≤◌, Bool, true, false, cond, List, [], ◌∷◌, map, get_or, Option, refl, ◌∙◌, arith}
use Rattle.std.specs.List.{flat_map, range_with_len, AllByRecursion}
use Rattle.brick_spec.specs.Flow.{Flow}
use Rattle.brick_spec.specs.FlowStage.{FlowItem}
use Rattle.brick_spec.specs.GroupOutput.{comes_before, put_by, in_key_order, all_of}
use Rattle.brick_spec.specs.Item.{Item}
use Rattle.flow_spec.specs.Parts.{Parts}
use Rattle.flow_spec.specs.Plan.{Plan, leaf_count}
use Rattle.flow_spec.specs.Answer.{ClassedItem, flows_of, parts_of, given_to, leaf_list, leaf_lists}
use Rattle.chain_laws.proofs.Totals.{total, total_map, total_flat, total_less, total_turn, total_places}

pub all_from : {X : Type 0} (P : X → Type 0) (h : ℕ → X) → ((k : ℕ) → P (h k)) → (k m : ℕ) → AllByRecursion P (map h (range_with_len k m))
all_from P h f k zero = tt
all_from P h f k (suc m) = (f k, all_from P h f (k + 1) m)

-- a weight of a list is that of the list in order
total_put : (f : Item → ℕ) (x : Item) (xs : List Item) → total f (put_by comes_before x xs) ≡ f x + total f xs
total_put f x [] = refl
total_put f x (y ∷ ys) = split (comes_before y x) (total_put f x ys) where
  split : (b : Bool) → total f (put_by comes_before x ys) ≡ f x + total f ys → total f (cond b (y ∷ put_by comes_before x ys) (x ∷ y ∷ ys)) ≡ f x + (f y + total f ys)
  split true next = omega (arith, next)
  split false next = refl

pub total_ordered : (f : Item → ℕ) (xs : List Item) → total f (in_key_order xs) ≡ total f xs
total_ordered f [] = refl
total_ordered f (x ∷ xs) = omega (arith, total_put f x (in_key_order xs), total_ordered f xs)

module _ (w : Item → ℕ) (plan : Plan) (ended : Option ℕ) (list : List ClassedItem) where
  abbrev made : Flow → Parts
  made f = parts_of plan ended list f

  abbrev given : ℕ → Flow → List Item
  given g f = given_to g (made f)

  abbrev one : List FlowItem → ℕ
  one ys = total (λ (x : FlowItem). w x.item) ys

  list_total : (g : ℕ) → total w (leaf_list plan ended list g) ≡ total (λ f. total w (given g f)) (flows_of list)
  list_total g = total_ordered w (flat_map (given g) (flows_of list)) ∙ total_flat w (given g) (flows_of list)

  flow_total : (f : Flow) → total (λ g. total w (given g f)) (range_with_len 0 (leaf_count plan)) ≤ total one (made f).lists
  flow_total f =
      omega (
        arith,
        total_less (λ g. total w (given g f)) (λ g. one (get_or (made f).lists g [])) (λ g. omega (arith, total_map w (λ (x : FlowItem). x.item) (get_or (made f).lists g []))) (range_with_len 0 (leaf_count plan)),
        total_places one refl (made f).lists (leaf_count plan),
      )

  -- all that leaf groups have is what flows gave them
  pub lists_total : total w (all_of (leaf_lists plan ended list)) ≤ total (λ f. total one (made f).lists) (flows_of list)
  lists_total =
      let places = range_with_len 0 (leaf_count plan) in
      let leaf = leaf_list plan ended list in
      omega (
        arith,
        total_flat w (λ (xs : List Item). xs) (map leaf places),
        total_map (λ (xs : List Item). total w xs) leaf places,
        total_less (λ g. total w (leaf g)) (λ g. total (λ f. total w (given g f)) (flows_of list)) (λ g. omega (arith, list_total g)) places,
        total_turn (λ g f. total w (given g f)) places (flows_of list),
        total_less (λ f. total (λ g. total w (given g f)) places) (λ f. total one (made f).lists) flow_total (flows_of list),
      )
