-- Results, one behind another, and put in order.
use Rattle.std.proofs.Common.{◌≡◌, ℕ, zero, suc, ◌+◌, ◌<◌, ◌≤◌, List, [], ◌∷◌, ◌++◌, map, length, max, min, refl, ap, sym, subst, ◌∙◌, arith, slice_index}
use Rattle.std.proofs.lemmas.Grind.{flat_map-append}
use Rattle.std.proofs.lemmas.List.{map-append, append-nil}
use Rattle.std.proofs.lemmas.List.Sums.{sum_by-cons, sum_by-append}
use Rattle.std.specs.List.{AllByRecursion, flat_map, sum_by, slice_index_or, range_with_len}
use Rattle.brick_spec.specs.GroupOutput.{in_key_order}
use Rattle.pcap_io.specs.View.{item_view}
use Rattle.pcap_io.specs.declared.item.Item.{Item}
use Rattle.flow_work.proofs.Flows.{map_numbers}
use Rattle.work_core.specs.Outputs.{item_lists}
use Rattle.work_core.specs.Result.{items_view, result_view}
use Rattle.work_core.specs.declared.result.WorkResult.{WorkResult}
use Rattle.work_parts.specs.Merged.{given_by, merged_group, counted_by, merged_count, merged}
use Rattle.work_parts.specs.Wholes.{side_by_side, AreSums, list_at, most_lists, IsWholeOf}
use Rattle.work_parts.specs.declared.whole.Whole.{Whole}
use Rattle.work_parts.proofs.Sides.{side_at, side_long}

most_more : (parts : List WorkResult) (part : WorkResult) → most_lists (parts ++ part ∷ []) ≡ max (most_lists parts) (length part.groups.items)
most_more [] part = omega arith
most_more (p ∷ parts) part = let e : most_lists (parts ++ part ∷ []) ≡ max (most_lists parts) (length part.groups.items) = most_more parts part in omega (arith, e)

most_is : (leaves : ℕ) (parts : List WorkResult) → 1 ≤ length parts → AllByRecursion (λ (part : WorkResult). length part.groups.items ≡ leaves) parts → most_lists parts ≡ leaves
most_is leaves [] some all = absurd (omega (arith, some))
most_is leaves (p ∷ []) some (one, all) = omega (arith, one)
most_is leaves (p ∷ q ∷ parts) some (one, all) = let e : most_lists (q ∷ parts) ≡ leaves = most_is leaves (q ∷ parts) (omega arith) all in omega (arith, one, e)

-- one result more
pub whole_more : (parts : List WorkResult) (part : WorkResult) (old new : Whole) → IsWholeOf parts old → item_lists new.groups.items ≡ side_by_side (item_lists old.groups.items) part.groups.items → AreSums old.drops part.drops new.drops
    → IsWholeOf (parts ++ part ∷ []) new
whole_more parts part old new h lists sums = record {
  lists = λ g. ap (λ ls. slice_index_or ls g []) lists ∙ (side_at (item_lists old.groups.items) part.groups.items g
      ∙ (ap (λ l. l ++ list_at g part) (h.lists g) ∙ (ap (λ l. flat_map (list_at g) parts ++ l) (sym (append-nil (list_at g part))) ∙ sym (flat_map-append (list_at g) parts (part ∷ [])))));
  long =
      let e = h.long in
      let f = side_long (item_lists old.groups.items) part.groups.items in
      let g = most_more parts part in
      let i = ap length lists in
      omega (arith, e, f, g, i);
  drops = λ k l.
      let e = h.drops k l in
      let f = sums k l in
      let g = sum_by-append (λ (part : WorkResult). slice_index part.drops k) parts (part ∷ []) in
      let i = sum_by-cons (λ (part : WorkResult). slice_index part.drops k) part [] in
      by (slice_index old.drops k) (slice_index part.drops k) (sum_by (λ (part : WorkResult). slice_index part.drops k) parts) (slice_index new.drops k) _ e f (g ∙ ap (λ m. sum_by (λ (part : WorkResult). slice_index part.drops k) parts + m) i);
} where
  by : (a b c d e : ℕ) → a ≡ min 4294967295 c → d ≡ min 4294967295 (a + b) → e ≡ c + (b + 0) → d ≡ min 4294967295 e
  by a b c d e h k l = omega (arith, h, k, l)

-- VIEWS

map_same : (xs : List ℕ) → map (λ x. x) xs ≡ xs
map_same [] = refl
map_same (x ∷ xs) = ap (λ t. x ∷ t) (map_same xs)

view_at : (g : ℕ) (part : WorkResult) → items_view (list_at g part) ≡ given_by g (result_view part)
view_at g part = by part.groups.items g where
  by : (ls : List (List Item)) (g : ℕ) → items_view (slice_index_or ls g []) ≡ slice_index_or (map items_view ls) g []
  by [] g = refl
  by (l ∷ ls) zero = refl
  by (l ∷ ls) (suc g) = by ls g

views_at : (g : ℕ) (parts : List WorkResult) → items_view (flat_map (list_at g) parts) ≡ flat_map (given_by g) (map result_view parts)
views_at g [] = refl
views_at g (p ∷ parts) = map-append item_view (list_at g p) (flat_map (list_at g) parts) ∙ ((λ i. view_at g p i ++ views_at g parts i))

sum_viewed : (k : ℕ) (parts : List WorkResult) → sum_by (counted_by k) (map result_view parts) ≡ sum_by (λ (part : WorkResult). slice_index part.drops k) parts
sum_viewed k [] = refl
sum_viewed k (p ∷ parts) =
    sum_by-cons (counted_by k) (result_view p) (map result_view parts) ∙ (ap (λ m. slice_index p.drops k + m) (sum_viewed k parts) ∙ sym (sum_by-cons (λ (part : WorkResult). slice_index part.drops k) p parts))

-- the whole in order is the results merged
pub whole_is : (parts : List WorkResult) (whole : Whole) (r : WorkResult) → IsWholeOf parts whole → length whole.drops ≡ 9 → map items_view r.groups.items ≡ map (λ items. in_key_order (items_view items)) (item_lists whole.groups.items) → r.drops ≡ whole.drops
    → (leaves : ℕ) → 1 ≤ length parts → AllByRecursion (λ (part : WorkResult). length part.groups.items ≡ leaves) parts → result_view r ≡ merged leaves (map result_view parts)
whole_is parts whole r h nine groups same leaves some all =
    let answers = map result_view parts in
    let long : length (item_lists whole.groups.items) ≡ leaves = h.long ∙ most_is leaves parts some all in
    let lists : map (merged_group answers) (range_with_len 0 leaves) ≡ map (λ items. in_key_order (items_view items)) (item_lists whole.groups.items) =
    ap (λ m. map (merged_group answers) (range_with_len 0 m)) (sym long)
    ∙ map_numbers (merged_group answers) (λ items. in_key_order (items_view items)) [] 0 (item_lists whole.groups.items) (λ g l.
    let z : 0 + g ≡ g = omega arith in ap (merged_group answers) z ∙ ap in_key_order (sym (views_at g parts) ∙ ap items_view (sym (h.lists g)))) in
    let counts : map (merged_count answers) (range_with_len 0 9) ≡ whole.drops =
    ap (λ m. map (merged_count answers) (range_with_len 0 m)) (sym nine)
    ∙ (map_numbers (merged_count answers) (λ (c : ℕ). c) 0 0 whole.drops (λ k l.
    let z : 0 + k ≡ k = omega arith in ap (merged_count answers) z ∙ (ap (min 4294967295) (sum_viewed k parts) ∙ sym (h.drops k (subst (λ (m : ℕ). k < m) nine l)))) ∙ map_same whole.drops) in
    λ i. record { groups = (groups ∙ sym lists) i; drops = (same ∙ sym counts) i }
