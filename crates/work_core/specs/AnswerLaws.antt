-- The laws of what a plan answers.
use Rattle.std.proofs.Common.{◌≡◌, ℕ, zero, suc, ◌+◌, ◌≤◌, List, [], ◌∷◌, ◌++◌, map, length, nat_eq, Bool}
use Rattle.std.proofs.Common.{true, false, ◌||◌, min, cond, refl, ap, sym, subst, arith, Some}
use Rattle.std.proofs.lemmas.Bool.Decides.{nat_tests}
use Rattle.std.specs.List.{AllByRecursion, list_any, flat_map, range_with_len, slice_index_or}
use Rattle.brick_spec.specs.Flow.{Flow}
use Rattle.brick_spec.specs.Item.{Item}
use Rattle.brick_spec.specs.GroupOutput.{in_key_order, comes_before, put_by}
use Rattle.group_merge.proofs.Order.{is_ordered}
use Rattle.flow_spec.specs.Plan.{Plan, leaf_count, flow_meaning}
use Rattle.flow_spec.specs.Answer.{ClassedItem, Answer, answer, flows_of, leaf_list, drop_counts, parts_of, given_to}
use Rattle.flow_work.specs.Meaning.{numbers_of, came_items}
use Rattle.flow_work.specs.Log.{OwnsKeys, AreRecords}
use Rattle.flow_work.proofs.Answers.{weak, came_owned}
use Rattle.flow_work.proofs.Flows.{owner_of, own_keys, beyond_is}
use Rattle.work_core.specs.ChainWork.{Rises, HasLists, HasRisingLists, HasOwnKeys, HasCappedCounts}

abbrev pub plan_answer : Plan → List ClassedItem → ℕ → Answer
plan_answer p list n = answer p list n

long_from : {X : Type 0} (h : ℕ → X) (k m : ℕ) → length (map h (range_with_len k m)) ≡ m
long_from h k zero = refl
long_from h k (suc m) = ap suc (long_from h (k + 1) m)

pub plan_lists : HasLists plan_answer
plan_lists p list n = long_from (leaf_list p (Some n) list) 0 (leaf_count p)

all_from : {X : Type 0} (P : X → Type 0) (h : ℕ → X) → ((k : ℕ) → P (h k)) → (k m : ℕ)
    → AllByRecursion P (map h (range_with_len k m))
all_from P h f k zero = tt
all_from P h f k (suc m) = (f k, all_from P h f (k + 1) m)

pub plan_rises : HasRisingLists plan_answer
plan_rises p list n = all_from Rises (leaf_list p (Some n) list)
    (λ g. is_ordered comes_before weak (flat_map (λ f. given_to g (parts_of p (Some n) list f)) (flows_of list))) 0
    (leaf_count p)

all_capped : (xs : List ℕ) → AllByRecursion (λ k. k ≤ 4294967295) (map (min 4294967295) xs)
all_capped [] = tt
all_capped (x ∷ xs) = (up_to x, all_capped xs) where
  up_to : (m : ℕ) → min 4294967295 m ≤ 4294967295
  up_to m = omega arith

pub plan_counts : HasCappedCounts plan_answer
plan_counts p list n = (refl, all_capped (drop_counts p (Some n) list))

-- KEYS

all_put : (P : Item → Type 0) (x : Item) (xs : List Item) → P x → AllByRecursion P xs
    → AllByRecursion P (put_by comes_before x xs)
all_put P x [] p all = (p, tt)
all_put P x (y ∷ ys) p (one, all) = split (comes_before y x) (all_put P x ys p all) where
  split : (b : Bool) → AllByRecursion P (put_by comes_before x ys)
      → AllByRecursion P (cond b (y ∷ put_by comes_before x ys) (x ∷ y ∷ ys))
  split true next = (one, next)
  split false next = (p, (one, all))

all_ordered : (P : Item → Type 0) (xs : List Item) → AllByRecursion P xs → AllByRecursion P (in_key_order xs)
all_ordered P [] h = tt
all_ordered P (x ∷ xs) (h, hs) = all_put P x (in_key_order xs) h (all_ordered P xs hs)

all_both : {X : Type 0} (P : X → Type 0) (xs ys : List X) → AllByRecursion P xs → AllByRecursion P ys
    → AllByRecursion P (xs ++ ys)
all_both P [] ys h k = k
all_both P (x ∷ xs) ys (h, hs) k = (h, all_both P xs ys hs k)

all_then : {X : Type 0} (P Q : X → Type 0) → ((x : X) → P x → Q x) → (xs : List X) → AllByRecursion P xs
    → AllByRecursion Q xs
all_then P Q k [] h = tt
all_then P Q k (x ∷ xs) (h, hs) = (k x h, all_then P Q k xs hs)

-- an item's key is that of a flow of the list
abbrev IsOfFlows : (ℕ → ℕ) → List ℕ → Item → Type 0
IsOfFlows owner ks x = list_any (nat_eq (owner x.a)) ks ≡ true

flows_own : (owner : ℕ → ℕ) (p : Plan) (n : ℕ) (list : List ClassedItem) (g : ℕ) (all fs : List Flow)
    → OwnsKeys (flow_meaning p) → ((f : ℕ) → owner (n + f) ≡ f)
    → AllByRecursion (λ (c : ClassedItem). owner c.item.a ≡ c.class.flow.number) list
    → ((k : ℕ) → list_any (nat_eq k) (numbers_of fs) ≡ true → list_any (nat_eq k) (numbers_of all) ≡ true)
    → AllByRecursion (IsOfFlows owner (numbers_of all)) (flat_map (λ f. given_to g (parts_of p (Some n) list f)) fs)
flows_own owner p n list g all [] owns ends keys among = tt
flows_own owner p n list g all (f ∷ fs) owns ends keys among =
    all_both _ (given_to g (parts_of p (Some n) list f)) _
    (all_then (λ (i : Item). owner i.a
    ≡ f.number) (IsOfFlows owner (numbers_of all)) (λ i e. subst (λ (k : ℕ). list_any (nat_eq k) (numbers_of all)
    ≡ true) (sym e) (among f.number (first (nat_eq f.number f.number) (itself f.number))))
    (given_to g (parts_of p (Some n) list f))
    (owns owner f n (came_items f list) (ends f.number) (came_owned owner f list keys) g))
    (flows_own owner p n list g all fs owns ends keys
    (λ k h. among k (right (nat_eq k f.number) (list_any (nat_eq k) (numbers_of fs)) h))) where
      right : (a b : Bool) → b ≡ true → (a || b) ≡ true
      right true b h = refl
      right false b h = h

      first : (a : Bool) → a ≡ true → (a || list_any (nat_eq f.number) (numbers_of fs)) ≡ true
      first true h = refl
      first false h = absurd (no' h) where
        no' : false ≡ true → ⊥
        no' z = cc

      itself : (k : ℕ) → nat_eq k k ≡ true
      itself k = grind (arith, nat_tests)

get_list : (h : ℕ → List Item) (P : Item → Type 0) → ((g : ℕ) → AllByRecursion P (h g)) → (k m g : ℕ)
    → AllByRecursion P (slice_index_or (map h (range_with_len k m)) g [])
get_list h P f k zero g = tt
get_list h P f k (suc m) zero = f k
get_list h P f k (suc m) (suc g) = get_list h P f (k + 1) m g

pub plan_keys : HasOwnKeys plan_answer
plan_keys p class_at n xs ys owns rx ry none g =
    let owner = owner_of class_at n in
    let of_list = λ (list : List ClassedItem) (r : AreRecords class_at n list) (g : ℕ). all_ordered
    (IsOfFlows owner (numbers_of (flows_of list))) _
    (flows_own owner p n list g (flows_of list) (flows_of list) owns (beyond_is class_at n)
    (own_keys class_at n list r.each) (λ k h. h)) in
    all_then (IsOfFlows owner (numbers_of (flows_of xs))) _
    (λ x hx. all_then (IsOfFlows owner (numbers_of (flows_of ys))) _
    (λ y hy e. none (owner x.a) hx (subst (λ (k : ℕ). list_any (nat_eq (owner k)) (numbers_of (flows_of ys))
    ≡ true) (sym e) hy)) _
    (get_list (leaf_list p (Some n) ys) (IsOfFlows owner (numbers_of (flows_of ys))) (of_list ys ry) 0
    (leaf_count p) g)) _
    (get_list (leaf_list p (Some n) xs) (IsOfFlows owner (numbers_of (flows_of xs))) (of_list xs rx) 0 (leaf_count p) g)
