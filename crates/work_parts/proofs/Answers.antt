-- What workers answer for their records, joined, is what one work answers for all.
use Rattle.std.proofs.Common.{◌≡◌, ℕ, ◌+◌, ◌<◌, ◌≤◌, ◌%◌, List, [], ◌∷◌, ◌++◌, map, Bool, true, false, nat_eq, min, cond, Some, refl, ap, sym, ◌∙◌, arith, mod-lt}
use Rattle.std.proofs.lemmas.List.{map-append}
use Rattle.std.proofs.lemmas.List.Folds.{flat_map-map}
use Rattle.std.proofs.lemmas.List.Sums.{sum_by-cons, sum_by-append}
use Rattle.std.specs.List.{filter, flat_map, list_any, AllByRecursion, sum_by, count_by, range_with_len, slice_index_or}
use Rattle.std.specs.List.Sorted.{ties}
use Rattle.brick_spec.specs.Flow.{Flow, Class}
use Rattle.brick_spec.specs.FlowStage.{Drop}
use Rattle.brick_spec.specs.GroupOutput.{in_key_order, comes_before}
use Rattle.brick_spec.specs.Item.{Item}
use Rattle.brick_spec.specs.Stage.{Reason}
use Rattle.group_merge.proofs.Order.{ordered_again}
use Rattle.flow_spec.specs.Answer.{ClassedItem, answer, is_at, flow_item, flows_of, parts_of, given_to, leaf_list, dropped_of, drop_counts}
use Rattle.flow_spec.specs.Plan.{Plan, leaf_count, flow_meaning}
use Rattle.flow_work.specs.Log.{OwnsKeys, AreRecords}
use Rattle.flow_work.specs.Meaning.{came_items}
use Rattle.flow_work.proofs.Answers.{weak, tied_keys, came_owned, split_sum}
use Rattle.flow_work.proofs.Flows.{owner_of, own_keys, beyond_is, flows_apart}
use Rattle.flow_work.proofs.Merged.{merged as merge_flows, Owned, Within}
use Rattle.work_parts.specs.Merged.{given_by, merged_group, counted_by, merged_count}
use Rattle.work_parts.specs.Workers.{records_for, worker_for, answers_of, WorkersAnswerAsOne}
use Rattle.work_parts.proofs.Numbers.{are_apart, is_within, map_twice, at_place, map_alike}
use Rattle.work_parts.proofs.Sharing.{IsFlowOf, are_alike, items_are, flows_are, came_kept, hash_at, hashes_are, goes_there, flows_for}

-- LISTS AND SUMS

flat_alike : {X Y : Type 0} (h k : X → List Y) → ((x : X) → h x ≡ k x) → (xs : List X) → flat_map h xs ≡ flat_map k xs
flat_alike h k e [] = refl
flat_alike h k e (x ∷ xs) = ap (λ l. l ++ flat_map h xs) (e x) ∙ ap (λ l. k x ++ l) (flat_alike h k e xs)

-- over those that a test lets through
flat_kept : {X Y : Type 0} (P : X → Type 0) (t : X → Bool) (h k : X → List Y) → ((x : X) → P x → t x ≡ true → h x ≡ k x) → (xs : List X) → AllByRecursion P xs → flat_map h (filter t xs) ≡ flat_map k (filter t xs)
flat_kept P t h k e [] all = refl
flat_kept P t h k e (x ∷ xs) (p, all) = split (t x) refl (flat_kept P t h k e xs all) where
  split : (b : Bool) → t x ≡ b → flat_map h (filter t xs) ≡ flat_map k (filter t xs) → flat_map h (cond b (x ∷ filter t xs) (filter t xs)) ≡ flat_map k (cond b (x ∷ filter t xs) (filter t xs))
  split true q next = ap (λ l. l ++ flat_map h (filter t xs)) (e x p q) ∙ ap (λ l. k x ++ l) next
  split false q next = next

all_so : {X : Type 0} (P : X → Type 0) → ((x : X) → P x) → (xs : List X) → AllByRecursion P xs
all_so P h [] = tt
all_so P h (x ∷ xs) = (h x, all_so P h xs)

sum_mapped : {X Y : Type 0} (v : Y → ℕ) (h : X → Y) (xs : List X) → sum_by v (map h xs) ≡ sum_by (λ x. v (h x)) xs
sum_mapped v h [] = refl
sum_mapped v h (x ∷ xs) = sum_by-cons v (h x) (map h xs) ∙ (ap (λ m. v (h x) + m) (sum_mapped v h xs) ∙ sym (sum_by-cons (λ x. v (h x)) x xs))

sum_alike : {X : Type 0} (v w : X → ℕ) → ((x : X) → v x ≡ w x) → (xs : List X) → sum_by v xs ≡ sum_by w xs
sum_alike v w e [] = refl
sum_alike v w e (x ∷ xs) = omega (arith, sum_alike v w e xs, e x, sum_by-cons v x xs, sum_by-cons w x xs)

-- of counts that stand still the sum stands still where that of the counts does
sum_capped : {X : Type 0} (v : X → ℕ) (xs : List X) → min 4294967295 (sum_by (λ x. min 4294967295 (v x)) xs) ≡ min 4294967295 (sum_by v xs)
sum_capped v [] = refl
sum_capped v (x ∷ xs) =
    ap (min 4294967295) (sum_by-cons (λ x. min 4294967295 (v x)) x xs) ∙ (both (v x) _ _ (sum_capped v xs) ∙ ap (min 4294967295) (sym (sum_by-cons v x xs))) where
      both : (a b c : ℕ) → min 4294967295 b ≡ min 4294967295 c → min 4294967295 (min 4294967295 a + b) ≡ min 4294967295 (a + c)
      both a b c e = omega (arith, e)

abbrev reason_of : Drop → Reason
reason_of d = d.reason

count_flat : {X : Type 0} (k : ℕ) (h : X → List Drop) (xs : List X) → count_by (is_at k) (map reason_of (flat_map h xs)) ≡ sum_by (λ x. count_by (is_at k) (map reason_of (h x))) xs
count_flat k h [] = refl
count_flat k h (x ∷ xs) =
    ap (count_by (is_at k)) (map-append reason_of (h x) (flat_map h xs))
    ∙ (sum_by-append (λ (r : Reason). cond (is_at k r) 1 0) (map reason_of (h x)) (map reason_of (flat_map h xs))
    ∙ (ap (λ m. count_by (is_at k) (map reason_of (h x)) + m) (count_flat k h xs) ∙ sym (sum_by-cons (λ x. count_by (is_at k) (map reason_of (h x))) x xs)))

-- WORKERS

module _ (plan : Plan) (class_at : ℕ → Class) (n : ℕ) (list : List ClassedItem) (workers : ℕ) (r : AreRecords class_at n list) where
  abbrev made : ℕ → Flow → List Item
  made g f = given_to g (parts_of plan (Some n) list f)

  abbrev dropped : Flow → List Drop
  dropped f = (parts_of plan (Some n) list f).dropped

  -- what a flow's worker makes of it is what one work makes of it
  part_same : (w : ℕ) (f : Flow) → IsFlowOf class_at n f → goes_there workers w f ≡ true → parts_of plan (Some n) (records_for workers list w) f ≡ parts_of plan (Some n) list f
  part_same w f p e = ap (λ (xs : List ClassedItem). flow_meaning plan f (record { items = map flow_item xs; ended = Some n })) (came_kept (IsFlowOf class_at n) (are_alike class_at n list r) (goes_there workers w) f p e list (items_are class_at n list r))

  group_of_worker : (g w : ℕ) → leaf_list plan (Some n) (records_for workers list w) g ≡ in_key_order (flat_map (made g) (filter (goes_there workers w) (flows_of list)))
  group_of_worker g w =
      ap (λ (fs : List Flow). in_key_order (flat_map (λ f. given_to g (parts_of plan (Some n) (records_for workers list w) f)) fs)) (flows_for class_at n list workers w r)
      ∙ ap in_key_order (flat_kept (IsFlowOf class_at n) (goes_there workers w) (λ f. given_to g (parts_of plan (Some n) (records_for workers list w) f)) (made g) (λ f p e. ap (given_to g) (part_same w f p e)) (flows_of list) (flows_are class_at n list r))

  drops_of_worker : (k w : ℕ) → count_by (is_at k) (map reason_of (dropped_of plan (Some n) (records_for workers list w))) ≡ sum_by (λ f. count_by (is_at k) (map reason_of (dropped f))) (filter (goes_there workers w) (flows_of list))
  drops_of_worker k w =
      ap (λ (fs : List Flow). count_by (is_at k) (map reason_of (flat_map (λ f. (parts_of plan (Some n) (records_for workers list w) f).dropped) fs))) (flows_for class_at n list workers w r)
      ∙ (ap (λ ds. count_by (is_at k) (map reason_of ds)) (flat_kept (IsFlowOf class_at n) (goes_there workers w) (λ f. (parts_of plan (Some n) (records_for workers list w) f).dropped) dropped (λ f p e. ap (λ q. q.dropped) (part_same w f p e)) (flows_of list) (flows_are class_at n list r))
      ∙ count_flat k dropped (filter (goes_there workers w) (flows_of list)))

  module _ (owns : OwnsKeys (flow_meaning plan)) (some : 1 ≤ workers) where
    -- the worker of the flow of an item's key
    abbrev own : Item → ℕ
    own y = hash_at (owner_of class_at n y.a) (flows_of list) % workers

    alike_own : (x y : Item) → ties comes_before x y ≡ true → own x ≡ own y
    alike_own x y t = ap (λ a. hash_at (owner_of class_at n a) (flows_of list) % workers) (tied_keys x y t)

    all_own : (f : Flow) → hash_at f.number (flows_of list) ≡ f.hash → (ys : List Item) → AllByRecursion (λ (y : Item). owner_of class_at n y.a ≡ f.number) ys → AllByRecursion (λ y. own y ≡ worker_for workers f) ys
    all_own f e [] h = tt
    all_own f e (y ∷ ys) (h, hs) = (ap (λ k. hash_at k (flows_of list) % workers) h ∙ ap (λ k. k % workers) e, all_own f e ys hs)

    owned : (g : ℕ) (fs : List Flow) → AllByRecursion (λ (f : Flow). hash_at f.number (flows_of list) ≡ f.hash) fs → Owned comes_before weak own (worker_for workers) (made g) alike_own fs
    owned g [] h = tt
    owned g (f ∷ fs) (h, hs) =
        (all_own f h (made g f) (owns (owner_of class_at n) f n (came_items f list) (beyond_is class_at n f.number) (came_owned (owner_of class_at n) f list (own_keys class_at n list r.each)) g), owned g fs hs)

    one_of : (f : Flow) → list_any (nat_eq (worker_for workers f)) (range_with_len 0 workers) ≡ true
    one_of f =
        let below : f.hash % workers < workers = mod-lt f.hash some in
        is_within (worker_for workers f) 0 workers (omega arith) (omega (arith, below))

    within : (g : ℕ) (fs : List Flow) → Within comes_before weak own (worker_for workers) (made g) alike_own (range_with_len 0 workers) fs
    within g [] = tt
    within g (f ∷ fs) = (one_of f, within g fs)

    group_joined : (g : ℕ) → g < leaf_count plan → merged_group (answers_of plan workers list n) g ≡ leaf_list plan (Some n) list g
    group_joined g l =
        let each = λ (w : ℕ). flat_map (made g) (filter (goes_there workers w) (flows_of list)) in
        ap in_key_order (flat_map-map (given_by g) (λ w. answer plan (records_for workers list w) n) (range_with_len 0 workers)
        ∙ flat_alike (λ w. given_by g (answer plan (records_for workers list w) n)) (λ w. in_key_order (each w)) (λ w. at_place [] (leaf_list plan (Some n) (records_for workers list w)) 0 (leaf_count plan) g l
        ∙ ((let z : 0 + g ≡ g = omega arith in ap (leaf_list plan (Some n) (records_for workers list w)) z) ∙ group_of_worker g w)) (range_with_len 0 workers)
        ∙ sym (flat_map-map (λ xs. in_key_order xs) each (range_with_len 0 workers)))
        ∙ (ordered_again comes_before weak (map each (range_with_len 0 workers))
        ∙ (ap in_key_order (flat_map-map (λ xs. xs) each (range_with_len 0 workers))
        ∙ sym (merge_flows comes_before weak own (worker_for workers) (made g) alike_own (range_with_len 0 workers) (flows_of list) (are_apart 0 workers)
        (owned g (flows_of list) (hashes_are (flows_of list) (flows_apart [] list tt))) (within g (flows_of list)))))

    count_joined : (k : ℕ) → k < 9 → merged_count (answers_of plan workers list n) k ≡ min 4294967295 (count_by (is_at k) (map reason_of (dropped_of plan (Some n) list)))
    count_joined k l =
        let counts = λ (f : Flow). count_by (is_at k) (map reason_of (dropped f)) in
        let each = λ (w : ℕ). sum_by counts (filter (goes_there workers w) (flows_of list)) in
        let numbers = λ (w place : ℕ). count_by (is_at place) (map reason_of (dropped_of plan (Some n) (records_for workers list w))) in
        ap (min 4294967295) (sum_mapped (counted_by k) (λ w. answer plan (records_for workers list w) n) (range_with_len 0 workers)
        ∙ sum_alike (λ w. counted_by k (answer plan (records_for workers list w) n)) (λ w. min 4294967295 (each w)) (λ w.
        ap (λ (xs : List ℕ). slice_index_or xs k 0) (map_twice (min 4294967295) (numbers w) (range_with_len 0 9))
        ∙ (at_place 0 (λ place. min 4294967295 (numbers w place)) 0 9 k l ∙ ((let z : 0 + k ≡ k = omega arith in ap (λ place. min 4294967295 (numbers w place)) z) ∙ ap (min 4294967295) (drops_of_worker k w)))) (range_with_len 0 workers))
        ∙ (sum_capped each (range_with_len 0 workers)
        ∙ ap (min 4294967295) (sym (split_sum (worker_for workers) counts (range_with_len 0 workers) (flows_of list) (are_apart 0 workers) (all_so (λ f. list_any (nat_eq (worker_for workers f)) (range_with_len 0 workers) ≡ true) one_of (flows_of list)))
        ∙ sym (count_flat k dropped (flows_of list))))

pub workers_answer_as_one : WorkersAnswerAsOne
workers_answer_as_one plan class_at n list workers owns r some =
    let groups : map (merged_group (answers_of plan workers list n)) (range_with_len 0 (leaf_count plan)) ≡ map (leaf_list plan (Some n) list) (range_with_len 0 (leaf_count plan)) =
    map_alike (merged_group (answers_of plan workers list n)) (leaf_list plan (Some n) list) 0 (leaf_count plan) (λ g l. group_joined plan class_at n list workers r owns some g (omega (arith, l))) in
    let numbers = λ (place : ℕ). count_by (is_at place) (map reason_of (dropped_of plan (Some n) list)) in
    let drops : map (merged_count (answers_of plan workers list n)) (range_with_len 0 9) ≡ map (min 4294967295) (drop_counts plan (Some n) list) =
    map_alike (merged_count (answers_of plan workers list n)) (λ place. min 4294967295 (numbers place)) 0 9 (λ k l. count_joined plan class_at n list workers r owns some k (omega (arith, l)))
    ∙ sym (map_twice (min 4294967295) numbers (range_with_len 0 9)) in
    λ i. record { groups = groups i; drops = drops i }
