-- How many items a chain leaves and drops of a capture: no more than the capture has bytes.
use Rattle.std.proofs.Common.{◌≡◌, ℕ, suc, ◌+◌, ◌≤◌, min, Bool, true, false, cond, not, ◌&&◌, List, [], ◌∷◌, ◌++◌, length, map, drop, count_by, Some, refl, ap, ap₂, ◌∙◌, arith, length-append, length-drop}
use Rattle.std.proofs.lemmas.List.{length-map}
use Rattle.std.proofs.lemmas.List.Sums.{count_by-le-length}
use Rattle.std.specs.List.{filter, flat_map, zip, AllByRecursion}
use Rattle.brick_spec.specs.Bytes.{Order, four_bytes}
use Rattle.brick_spec.specs.Capture.{Entry, Contents, record_text, IsReadable, longest_capture}
use Rattle.brick_spec.specs.Flow.{Flow, Class}
use Rattle.brick_spec.specs.FlowClass.{classes_of}
use Rattle.brick_spec.specs.FlowStage.{FlowItem, Drop}
use Rattle.brick_spec.specs.GroupOutput.{all_of}
use Rattle.brick_spec.specs.Item.{Item, items_from}
use Rattle.brick_spec.specs.Stage.{Reason, Big}
use Rattle.brick_spec.proofs.Numbers.{length-four_bytes}
use Rattle.flow_spec.specs.Parts.{Parts}
use Rattle.flow_spec.specs.Answer.{ClassedItem, is_of, flow_item, flows_of, parts_of, leaf_lists, dropped_of, is_at, drop_counts, counts_of}
use Rattle.flow_work.proofs.Flows.{flows_apart}
use Rattle.chain_spec.specs.ChainSet.{Chain}
use Rattle.tenant_spec.specs.ChainPlan.{plan_of}
use Rattle.tenant_spec.specs.Records.{items_of, is_big, is_refused, is_accepted, big_items, accepted_items}
use Rattle.tenant_spec.specs.Tenant.{reasons}
use Rattle.chain_laws.specs.Accepted.{IsAccepted}
use Rattle.chain_laws.specs.Counts.{LeavesNoMore, CountsAreSmall}
use Rattle.chain_laws.proofs.Totals.{sum_is, total, total_map, total_less, total_sum}
use Rattle.chain_laws.proofs.WindowCounts.{long_both}
use Rattle.chain_laws.proofs.Drops.{worth}
use Rattle.chain_laws.proofs.DropPaths.{all_parts, chain_costs}
use Rattle.chain_laws.proofs.Lists.{lists_total, all_from}
use Rattle.chain_laws.proofs.Flows.{each_once}
use Rattle.chain_laws.proofs.Walk.{accepted_fits}
use Rattle.chain_laws.proofs.Sizes.{accepted_sized}

-- how many there are
many : {X : Type 0} (xs : List X) → total (λ (x : X). 1) xs ≡ length xs
many [] = refl
many (x ∷ xs) = omega (arith, many xs)

-- what a record may come to
abbrev record_worth : Item → ℕ
record_worth i = 1 + length i.frame

abbrev classed_worth : ClassedItem → ℕ
classed_worth c = record_worth c.item

-- FLOW BY FLOW

module _ (chain : Chain) (h : IsAccepted chain) (n : ℕ) (list : List ClassedItem) where
  abbrev came : Flow → List FlowItem
  came f = map flow_item (filter (is_of f) list)

  abbrev made : Flow → Parts
  made f = parts_of (plan_of chain) (Some n) list f

  all_came : total (λ f. total (worth true) (came f)) (flows_of list) ≤ total classed_worth list
  all_came =
      omega (
        arith,
        total_less (λ f. total (worth true) (came f)) (λ f. total classed_worth (filter (is_of f) list)) (λ f. omega (arith, total_map (worth true) flow_item (filter (is_of f) list))) (flows_of list),
        each_once classed_worth (flows_of list) (flows_apart [] list tt) list,
      )

  abbrev long_list : List FlowItem → ℕ
  long_list ys = length ys

  all_left : length (all_of (leaf_lists (plan_of chain) (Some n) list)) ≤ total (λ f. total long_list (made f).lists) (flows_of list)
  all_left =
      omega (
        arith,
        many (all_of (leaf_lists (plan_of chain) (Some n) list)),
        lists_total (λ (i : Item). 1) (plan_of chain) (Some n) list,
        total_less (λ f. total (λ ys. total (λ (x : FlowItem). 1) ys) (made f).lists) (λ f. total long_list (made f).lists)
            (λ f. total_less (λ ys. total (λ (x : FlowItem). 1) ys) long_list (λ ys. omega (arith, many ys)) (made f).lists) (flows_of list),
      )

  all_dropped : length (dropped_of (plan_of chain) (Some n) list) ≡ total (λ f. length (made f).dropped) (flows_of list)
  all_dropped = each (flows_of list) where
    each : (fs : List Flow) → length (flat_map (λ f. (made f).dropped) fs) ≡ total (λ f. length (made f).dropped) fs
    each [] = refl
    each (f ∷ fs) = omega (arith, each fs, long_both (made f).dropped (flat_map (λ f. (made f).dropped) fs))

  all_few : length (all_of (leaf_lists (plan_of chain) (Some n) list)) + length (dropped_of (plan_of chain) (Some n) list) ≤ total classed_worth list
  all_few =
      omega (
        arith,
        all_left,
        all_dropped,
        total_sum (λ f. total long_list (made f).lists) (λ f. length (made f).dropped) (flows_of list),
        total_less (λ f. all_parts (made f)) (λ f. total (worth true) (came f)) (λ f. chain_costs chain f n (accepted_fits chain h).1 (accepted_sized chain h) (came f)) (flows_of list),
        all_came,
      )

-- RECORDS

-- an accepted record is not Big
one_record : (big refused : Bool) (k : ℕ) → cond (not big && not refused) (1 + k) 0 + cond big 1 0 ≤ 1 + k
one_record true refused k = omega arith
one_record false true k = omega arith
one_record false false k = omega arith

module _ (chain : Chain) (refused : List ℕ) where
  made_classed : List Class → List Item → List ClassedItem
  made_classed cs is = map (λ (p : Class × Item). record { class = p.0; item = p.1 }) (zip cs is)

  big_few : (is : List Item) → length (filter (is_big chain) is) ≤ total record_worth is
  big_few [] = omega arith
  big_few (i ∷ is) = by (is_big chain i) (big_few is) where
    by : (b : Bool) → length (filter (is_big chain) is) ≤ total record_worth is → length (cond b (i ∷ filter (is_big chain) is) (filter (is_big chain) is)) ≤ record_worth i + total record_worth is
    by true next = omega (arith, next)
    by false next = omega (arith, next)

  each_record : (cs : List Class) (is : List Item) → total classed_worth (filter (λ x. is_accepted chain refused x.item) (made_classed cs is)) + length (filter (is_big chain) is) ≤ total record_worth is
  unfolding made_classed
  each_record [] is = omega (arith, big_few is)
  each_record (c ∷ cs) [] = omega arith
  each_record (c ∷ cs) (i ∷ is) = by (is_big chain i) (is_refused refused i) (each_record cs is) where
    kept : List ClassedItem
    kept = filter (λ x. is_accepted chain refused x.item) (made_classed cs is)

    here : ClassedItem
    here = record { class = c; item = i }

    by : (b r : Bool) → total classed_worth kept + length (filter (is_big chain) is) ≤ total record_worth is
        → total classed_worth (cond (not b && not r) (here ∷ kept) kept) + length (cond b (i ∷ filter (is_big chain) is) (filter (is_big chain) is)) ≤ record_worth i + total record_worth is
    by true r next = omega (arith, next)
    by false true next = omega (arith, next)
    by false false next = omega (arith, next)

  records_few : (c : Contents) → total classed_worth (accepted_items chain refused c) + length (big_items chain c) ≤ total record_worth (items_of c)
  unfolding made_classed
  records_few c = each_record (classes_of chain.nat (map (λ (e : Entry). e.frame) c.entries)) (items_of c)

-- THE CAPTURE

text_long : (order : Order) (e : Entry) → length (record_text order e) ≡ 16 + length e.frame
text_long order e =
    let f : ℕ → List ℕ = four_bytes order in
    omega (
      arith,
      length-append (f e.seconds) (f e.fraction ++ (f (length e.frame) ++ (f e.original ++ e.frame))),
      length-append (f e.fraction) (f (length e.frame) ++ (f e.original ++ e.frame)),
      length-append (f (length e.frame)) (f e.original ++ e.frame),
      length-append (f e.original) e.frame,
      length-four_bytes order e.seconds,
      length-four_bytes order e.fraction,
      length-four_bytes order (length e.frame),
      length-four_bytes order e.original,
    )

texts_long : (order : Order) (k : ℕ) (es : List Entry) → total record_worth (items_from k es) ≤ length (flat_map (record_text order) es)
texts_long order k [] = omega arith
texts_long order k (e ∷ es) = omega (arith, texts_long order (suc k) es, text_long order e, long_both (record_text order e) (flat_map (record_text order) es))

capture_long : (bytes : List ℕ) (c : Contents) → IsReadable bytes c → total record_worth (items_of c) ≤ longest_capture
capture_long bytes c h =
    let same : length (drop 24 bytes) ≡ length (flat_map (record_text h.whole.0) c.entries) = ap length h.whole.1.records in
    omega (arith, texts_long h.whole.0 0 c.entries, same, length-drop 24 bytes, h.short)

-- COUNTS

counts_few : (most : ℕ) (rs : List Reason) → length rs ≤ most → AllByRecursion (λ k. k ≤ most) (counts_of rs)
counts_few most rs few = all_from (λ k. k ≤ most) (λ place. count_by (is_at place) rs) (λ place. omega (arith, few, count_by-le-length (is_at place) rs)) 0 9

stand_still : (most : ℕ) (xs : List ℕ) → most ≤ 4294967295 → AllByRecursion (λ k. k ≤ most) xs → map (min 4294967295) xs ≡ xs
stand_still most [] low h = refl
stand_still most (x ∷ xs) low (h, hs) = let e : min 4294967295 x ≡ x = omega (arith, low, h) in ap₂ (λ (y : ℕ) (ys : List ℕ). y ∷ ys) e (stand_still most xs low hs)

pub counts_small : CountsAreSmall
counts_small chain h refused bytes c readable =
    let n = length c.entries in
    let list = accepted_items chain refused c in
    let ds = dropped_of (plan_of chain) (Some n) list in
    let few = all_few chain h n list in
    let records = records_few chain refused c in
    let long = capture_long bytes c readable in
    let all : length (reasons chain refused c) ≡ length (big_items chain c) + length ds =
    long_both (map (λ (i : Item). Big) (big_items chain c)) (map (λ (d : Drop). d.reason) ds) ∙ ap₂ (λ (x y : ℕ). x + y) (length-map (big_items chain c) (λ (i : Item). Big)) (length-map ds (λ (d : Drop). d.reason)) in
    let dropped : length (map (λ (d : Drop). d.reason) ds) ≡ length ds = length-map ds (λ (d : Drop). d.reason) in
    record {
      together = omega (arith, few, records, long, all);
      each = counts_few longest_capture (reasons chain refused c) (omega (arith, few, records, long, all));
      exact = stand_still longest_capture (drop_counts (plan_of chain) (Some n) list) (omega arith) (counts_few longest_capture (map (λ (d : Drop). d.reason) ds) (omega (arith, few, records, long, dropped)));
    }

pub leaves_no_more : LeavesNoMore
leaves_no_more chain h n list = omega (arith, all_few chain h n list, sum_is classed_worth list)
