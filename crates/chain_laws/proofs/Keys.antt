-- The keys of what a chain leaves of a capture.
use Rattle.std.proofs.Common.{◌≡◌, ℕ, zero, suc, ◌+◌, ◌<◌, ◌≤◌, Bool, true, false, cond, ◌&&◌, nat_eq, nat_lt, List, [], ◌∷◌, length, map, get_or, count_by, Some, refl, ap, ◌∙◌, arith}
use Rattle.std.proofs.lemmas.Bool.Decides.{nat_tests}
use Rattle.std.specs.List.{filter, flat_map, AllByRecursion}
use Rattle.brick_spec.specs.Capture.{Contents}
use Rattle.brick_spec.specs.Flow.{Flow}
use Rattle.brick_spec.specs.FlowStage.{FlowItem}
use Rattle.brick_spec.specs.GroupOutput.{all_of}
use Rattle.brick_spec.specs.Item.{Item}
use Rattle.flow_spec.specs.Parts.{Parts}
use Rattle.flow_spec.specs.Plan.{leaf_count}
use Rattle.flow_spec.specs.Answer.{ClassedItem, is_of, flow_item, flows_of, parts_of, given_to, leaf_list, leaf_lists}
use Rattle.chain_spec.specs.ChainSet.{Chain, has_one_window}
use Rattle.tenant_spec.specs.ChainPlan.{plan_of}
use Rattle.tenant_spec.specs.Records.{accepted_items}
use Rattle.chain_laws.specs.Accepted.{IsAccepted, all_stages}
use Rattle.chain_laws.specs.Keys.{lists_left, RisesStrictly, KeysAreDistinct, AreOfRecords, AnswersAreDistinct, has_key, RecordsStandOnce, KeysStandOnce}
use Rattle.chain_laws.proofs.Totals.{total, total_map, total_flat, total_less, total_sum, total_none, sum_is}
use Rattle.chain_laws.proofs.Weights.{weight, item_weight, hit, early}
use Rattle.chain_laws.proofs.Stages.{rest}
use Rattle.chain_laws.proofs.Paths.{chain_weighs, ends, no_ends, few_ends, windows_are}
use Rattle.chain_laws.proofs.Lists.{lists_total, total_ordered, all_from}
use Rattle.chain_laws.proofs.Flows.{came_once, ends_once, no_end, accepted_once, accepted_none, of_records_once, of_records_none}
use Rattle.chain_laws.proofs.Rising.{Rises, order_rises, rises_strictly}
use Rattle.chain_laws.proofs.Walk.{accepted_fits}

at_place : (P : List FlowItem → Type 0) → P [] → (lists : List (List FlowItem)) → AllByRecursion P lists → (g : ℕ) → P (get_or lists g [])
at_place P none [] h g = none
at_place P none (ys ∷ lists) (h, hs) zero = h
at_place P none (ys ∷ lists) (h, hs) (suc g) = at_place P none lists hs g

module _ (chain : Chain) (fits : has_one_window chain ≡ true) (n : ℕ) (list : List ClassedItem) (a j : ℕ) where
  abbrev made : Flow → Parts
  made f = parts_of (plan_of chain) (Some n) list f

  abbrev came : Flow → List FlowItem
  came f = map flow_item (filter (is_of f) list)

  abbrev here : List Item → ℕ
  here items = total (item_weight (hit a j)) items

  abbrev given : ℕ → Flow → List Item
  given g f = given_to g (made f)

  as_given : (ys : List FlowItem) → here (map (λ x. x.item) ys) ≡ total (weight (hit a j)) ys
  as_given ys = total_map (item_weight (hit a j)) (λ (x : FlowItem). x.item) ys

  abbrev ended : Flow → ℕ
  ended f = rest a j f n

  -- one leaf group's
  flow_given : (g : ℕ) (f : Flow) → here (given g f) ≤ total (weight (early a)) (came f) + ended f
  flow_given g f =
      omega (
        arith,
        as_given (get_or (made f).lists g []),
        at_place (λ ys. total (weight (hit a j)) ys ≤ total (weight (early a)) (came f) + ended f) (omega arith) (made f).lists ((chain_weighs chain f n a j fits).each (came f)) g,
      )

  list_given : (g : ℕ) → here (leaf_list (plan_of chain) (Some n) list g) ≡ total (λ f. here (given g f)) (flows_of list)
  list_given g = total_ordered (item_weight (hit a j)) (flat_map (given g) (flows_of list)) ∙ total_flat (item_weight (hit a j)) (given g) (flows_of list)

  abbrev came_all : ℕ
  came_all = total (λ (c : ClassedItem). item_weight (early a) c.item) list

  pub leaf_here : (g : ℕ) → here (leaf_list (plan_of chain) (Some n) list g) ≤ came_all + total ended (flows_of list)
  leaf_here g =
      omega (
        arith,
        list_given g,
        total_less (λ f. here (given g f)) (λ f. total (weight (early a)) (came f) + ended f) (flow_given g) (flows_of list),
        total_sum (λ f. total (weight (early a)) (came f)) ended (flows_of list),
        came_once (early a) list,
      )

  -- those of all leaf groups
  abbrev all_ended : Flow → ℕ
  all_ended f = ends (rest a j f n) (all_stages chain)

  pub all_here : here (all_of (leaf_lists (plan_of chain) (Some n) list)) ≤ came_all + total all_ended (flows_of list)
  all_here =
      omega (
        arith,
        lists_total (item_weight (hit a j)) (plan_of chain) (Some n) list,
        total_less (λ f. total (λ ys. total (weight (hit a j)) ys) (made f).lists) (λ f. total (weight (early a)) (came f) + all_ended f) (λ f. (chain_weighs chain f n a j fits).all (came f)) (flows_of list),
        total_sum (λ f. total (weight (early a)) (came f)) all_ended (flows_of list),
        came_once (early a) list,
      )

-- OF RECORDS

abbrev came_all_of : ℕ → List ClassedItem → ℕ
came_all_of a list = total (λ (x : ClassedItem). item_weight (early a) x.item) list

-- each number is that of one item, and below n
record AreOnce (n : ℕ) (list : List ClassedItem) : Type 0 where
  once : (a : ℕ) → came_all_of a list ≤ 1
  none : (a : ℕ) → n ≤ a → came_all_of a list ≡ 0

accepted_are_once : (chain : Chain) (refused : List ℕ) (c : Contents) → AreOnce (length c.entries) (accepted_items chain refused c)
accepted_are_once chain refused c = record { once = accepted_once chain refused c; none = accepted_none chain refused c }

records_are_once : (n : ℕ) (list : List ClassedItem) → AreOfRecords n list → AreOnce n list
records_are_once n list h = record { once = λ a. of_records_once n a list h; none = λ a l. of_records_none n a l list h }

-- a number is that of a record, or of the end of at most one flow
once_each : (n : ℕ) (list : List ClassedItem) → AreOnce n list → (a j : ℕ) → came_all_of a list + total (λ f. rest a j f n) (flows_of list) ≤ 1
once_each n list are a j = split (nat_lt a n) refl where
  below : nat_lt a n ≡ true → a < n
  below e = grind (arith, nat_tests)

  beyond : nat_lt a n ≡ false → n ≤ a
  beyond e = grind (arith, nat_tests)

  split : (b : Bool) → nat_lt a n ≡ b → came_all_of a list + total (λ f. rest a j f n) (flows_of list) ≤ 1
  split true e = omega (arith, are.once a, total_none (λ f. rest a j f n) (no_end a j n (below e)) (flows_of list))
  split false e = omega (arith, are.none a (beyond e), ends_once a j n list)

lists_rise : (chain : Chain) → IsAccepted chain → (n : ℕ) (list : List ClassedItem) → AreOnce n list → AllByRecursion RisesStrictly (leaf_lists (plan_of chain) (Some n) list)
lists_rise chain h n list are = all_from RisesStrictly one (λ g. rises_strictly (one g) (in_order g) (once g)) 0 (leaf_count (plan_of chain)) where
  one : ℕ → List Item
  one g = leaf_list (plan_of chain) (Some n) list g

  in_order : (g : ℕ) → Rises (one g)
  in_order g = order_rises (flat_map (λ f. given_to g (parts_of (plan_of chain) (Some n) list f)) (flows_of list))

  once : (g a j : ℕ) → total (item_weight (hit a j)) (one g) ≤ 1
  once g a j = omega (arith, leaf_here chain (accepted_fits chain h).1 n list a j g, once_each n list are a j)

pub keys_distinct : KeysAreDistinct
keys_distinct chain h refused c = lists_rise chain h (length c.entries) (accepted_items chain refused c) (accepted_are_once chain refused c)

pub answers_distinct : AnswersAreDistinct
answers_distinct chain h n list are = lists_rise chain h n list (records_are_once n list are)

-- as std counts
as_counted : (a j : ℕ) (items : List Item) → count_by (has_key a j) items ≤ total (item_weight (hit a j)) items
as_counted a j items = omega (arith, sum_is (λ i. cond (has_key a j i) 1 0) items, total_less (λ i. cond (has_key a j i) 1 0) (item_weight (hit a j)) (λ i. same (nat_eq i.a a) (nat_eq i.j j)) items) where
  same : (p q : Bool) → cond (p && q) 1 0 ≤ cond p (cond q 1 0) 0
  same true q = omega arith
  same false q = omega arith

pub records_once : RecordsStandOnce
records_once chain h refused c a j l =
    let n = length c.entries in
    let list = accepted_items chain refused c in
    omega (
      arith,
      as_counted a j (all_of (lists_left chain refused c)),
      all_here chain (accepted_fits chain h).1 n list a j,
      total_none (λ f. ends (rest a j f n) (all_stages chain)) (λ f. ap (λ e. ends e (all_stages chain)) (no_end a j n l f) ∙ no_ends (all_stages chain)) (flows_of list),
      accepted_once chain refused c a,
    )

pub keys_once : KeysStandOnce
keys_once chain h few refused c a j =
    let n = length c.entries in
    let list = accepted_items chain refused c in
    omega (
      arith,
      as_counted a j (all_of (lists_left chain refused c)),
      all_here chain (accepted_fits chain h).1 n list a j,
      total_less (λ f. ends (rest a j f n) (all_stages chain)) (λ f. rest a j f n) (λ f. (few_ends (rest a j f n) (all_stages chain) (omega (arith, few, windows_are (all_stages chain)))).0) (flows_of list),
      once_each n list (accepted_are_once chain refused c) a j,
    )
