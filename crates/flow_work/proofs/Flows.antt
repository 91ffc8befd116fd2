-- The flows of a list, each once; and the whole answer.
use Rattle.std.proofs.Common.{◌≡◌, ◌≢◌, ℕ, ◌+◌, ◌-◌, ◌<◌, ◌≤◌, List, [], ◌∷◌, ◌++◌, map, Bool, true, false, ◌||◌, ◌⊎◌, inl, inr, Option, Some, None, nat_eq, nat_lt, if◌then◌else◌, cond, refl, ap, sym, subst, ◌∙◌, append-nil, append_assoc, get_or, slice_index, length, min, zero, suc, arith}
use Rattle.std.proofs.lemmas.Bool.Decides.{nat_tests}
use Rattle.std.proofs.lemmas.List.{length-map, map-append}
use Rattle.std.specs.List.{list_any, flat_map, AllByRecursion, sum_by, count_by, range_with_len}
use Rattle.std.proofs.lemmas.List.Sums.{sum_by-cons, sum_by-append}
use Rattle.brick_spec.specs.Stage.{Reason}
use Rattle.brick_spec.specs.Flow.{Flow, Class}
use Rattle.brick_spec.specs.Item.{Item}
use Rattle.brick_spec.specs.FlowStage.{FlowItem, Drop, FlowInput}
use Rattle.brick_spec.specs.GroupOutput.{in_key_order}
use Rattle.flow_spec.specs.Parts.{Parts}
use Rattle.flow_spec.specs.Answer.{ClassedItem, with_flow, flows_after, flows_of, given_to, Answer, counts_of, is_at, answer}
use Rattle.flow_work.specs.Meaning.{Meaning, AreOf, numbers_of, parts_by, is_for}
use Rattle.flow_spec.specs.Plan.{Plan, flow_meaning, leaf_count}
use Rattle.flow_work.specs.Node.{IsNode}
use Rattle.flow_work.specs.Log.{Entry, flows_in, EndedFor, OwnsKeys, AreRecords}
use Rattle.flow_work.proofs.Logs.{same_number, itself, any_more}
use Rattle.flow_work.proofs.Merged.{AreApart}
use Rattle.flow_work.proofs.Answers.{all_then, group_answers, drop_answers}

-- it is the flow of an item of the list
abbrev pub IsIn : Flow → List ClassedItem → Type 0
IsIn f [] = ⊥
IsIn f (c ∷ cs) = (c.class.flow ≡ f) ⊎ IsIn f cs

pub one_of_them : (c f : Flow) (list : List ClassedItem) → IsIn c list → AreOf f list → c.number ≡ f.number → c ≡ f
one_of_them c f [] h are e = absurd h
one_of_them c f (d ∷ ds) (inl h) are e = sym h ∙ are.0 (ap (λ (x : Flow). x.number) h ∙ e)
one_of_them c f (d ∷ ds) (inr h) are e = one_of_them c f ds h are.1 e

in_more : (f : Flow) (xs ys : List ClassedItem) → IsIn f xs → IsIn f (xs ++ ys)
in_more f [] ys h = absurd h
in_more f (x ∷ xs) ys (inl h) = inl h
in_more f (x ∷ xs) ys (inr h) = inr (in_more f xs ys h)

in_last : (c : ClassedItem) (xs : List ClassedItem) → IsIn c.class.flow (xs ++ c ∷ [])
in_last c [] = inl refl
in_last c (x ∷ xs) = inr (in_last c xs)

-- AS THE LIST GROWS

pub flows_more : (fs : List Flow) (list : List ClassedItem) (c : ClassedItem) → flows_after fs (list ++ c ∷ []) ≡ with_flow (flows_after fs list) c.class.flow
flows_more fs [] c = refl
flows_more fs (d ∷ ds) c = flows_more (with_flow fs d.class.flow) ds c

abbrev pub has_number : ℕ → List Flow → Bool
has_number k fs = list_any (λ (g : Flow). nat_eq k g.number) fs

pub any_number : (k : ℕ) (fs : List Flow) → has_number k fs ≡ list_any (nat_eq k) (numbers_of fs)
any_number k [] = refl
any_number k (f ∷ fs) = ap (λ b. nat_eq k f.number || b) (any_number k fs)

turned : (m n : ℕ) → nat_eq m n ≡ nat_eq n m
turned m n = grind (arith, nat_tests)

neither : (a b : Bool) → (a || b) ≡ false → (a ≡ false) × (b ≡ false)
neither true b h = absurd (no' h) where
  no' : true ≡ false → ⊥
  no' z = cc
neither false b h = (refl, h)

apart_push : (xs : List ℕ) (y : ℕ) → AreApart xs → list_any (nat_eq y) xs ≡ false → AreApart (xs ++ y ∷ [])
apart_push [] y h n = (refl, tt)
apart_push (x ∷ xs) y (h, hs) n =
    let both = neither (nat_eq y x) (list_any (nat_eq y) xs) n in
    (any_more x y xs ∙ (ap (λ b. b || nat_eq x y) h ∙ (turned x y ∙ both.0)), apart_push xs y hs both.1)

apart_with : (fs : List Flow) (f : Flow) → AreApart (numbers_of fs) → AreApart (numbers_of (with_flow fs f))
apart_with fs f h = split (has_number f.number fs) refl where
  split : (b : Bool) → has_number f.number fs ≡ b → AreApart (numbers_of (if b then fs else fs ++ f ∷ []))
  split true e = h
  split false e = subst AreApart (sym (map-append (λ (x : Flow). x.number) fs (f ∷ []))) (apart_push (numbers_of fs) f.number h (sym (any_number f.number fs) ∙ e))

pub flows_apart : (fs : List Flow) (list : List ClassedItem) → AreApart (numbers_of fs) → AreApart (numbers_of (flows_after fs list))
flows_apart fs [] h = h
flows_apart fs (c ∷ cs) h = flows_apart (with_flow fs c.class.flow) cs (apart_with fs c.class.flow h)

-- what was there stays
stays_with : (k : ℕ) (fs : List Flow) (f : Flow) → list_any (nat_eq k) (numbers_of fs) ≡ true → list_any (nat_eq k) (numbers_of (with_flow fs f)) ≡ true
stays_with k fs f h = split (has_number f.number fs) where
  split : (b : Bool) → list_any (nat_eq k) (numbers_of (if b then fs else fs ++ f ∷ [])) ≡ true
  split true = h
  split false = ap (λ ks. list_any (nat_eq k) ks) (map-append (λ (x : Flow). x.number) fs (f ∷ [])) ∙ (any_more k f.number (numbers_of fs) ∙ ap (λ b. b || nat_eq k f.number) h)

stays_after : (k : ℕ) (fs : List Flow) (list : List ClassedItem) → list_any (nat_eq k) (numbers_of fs) ≡ true → list_any (nat_eq k) (numbers_of (flows_after fs list)) ≡ true
stays_after k fs [] h = h
stays_after k fs (c ∷ cs) h = stays_after k (with_flow fs c.class.flow) cs (stays_with k fs c.class.flow h)

there_with : (fs : List Flow) (f : Flow) → list_any (nat_eq f.number) (numbers_of (with_flow fs f)) ≡ true
there_with fs f = split (has_number f.number fs) refl where
  last : (a b : Bool) → b ≡ true → (a || b) ≡ true
  last true b h = refl
  last false b h = h

  split : (b : Bool) → has_number f.number fs ≡ b → list_any (nat_eq f.number) (numbers_of (if b then fs else fs ++ f ∷ [])) ≡ true
  split true e = sym (any_number f.number fs) ∙ e
  split false e = ap (λ ks. list_any (nat_eq f.number) ks) (map-append (λ (x : Flow). x.number) fs (f ∷ [])) ∙ (any_more f.number f.number (numbers_of fs) ∙ last (list_any (nat_eq f.number) (numbers_of fs)) (nat_eq f.number f.number) (itself f.number))

pub flows_there : (k : ℕ) (fs : List Flow) (list : List ClassedItem) → list_any (nat_eq k) (flows_in list) ≡ true → list_any (nat_eq k) (numbers_of (flows_after fs list)) ≡ true
flows_there k fs [] h = absurd (no' h) where
  no' : false ≡ true → ⊥
  no' z = cc
flows_there k fs (c ∷ cs) h = split (nat_eq k c.class.flow.number) refl h (flows_there k (with_flow fs c.class.flow) cs) where
  split : (b : Bool) → nat_eq k c.class.flow.number ≡ b → (b || list_any (nat_eq k) (flows_in cs)) ≡ true
      → (list_any (nat_eq k) (flows_in cs) ≡ true → list_any (nat_eq k) (numbers_of (flows_after (with_flow fs c.class.flow) cs)) ≡ true) → list_any (nat_eq k) (numbers_of (flows_after (with_flow fs c.class.flow) cs)) ≡ true
  split true e z next =
      let here : list_any (nat_eq k) (numbers_of (with_flow fs c.class.flow)) ≡ true = subst (λ (i : ℕ). list_any (nat_eq i) (numbers_of (with_flow fs c.class.flow)) ≡ true) (sym (same_number k c.class.flow.number e)) (there_with fs c.class.flow) in
      stays_after k (with_flow fs c.class.flow) cs here
  split false e z next = next z

all_pushed : {X : Type 0} (P : X → Type 0) (xs : List X) (y : X) → AllByRecursion P xs → P y → AllByRecursion P (xs ++ y ∷ [])
all_pushed P [] y h p = (p, tt)
all_pushed P (x ∷ xs) y (h, hs) p = (h, all_pushed P xs y hs p)

all_with : (P : Flow → Type 0) (fs : List Flow) (f : Flow) → AllByRecursion P fs → P f → AllByRecursion P (with_flow fs f)
all_with P fs f h p = split (has_number f.number fs) where
  split : (b : Bool) → AllByRecursion P (if b then fs else fs ++ f ∷ [])
  split true = h
  split false = all_pushed P fs f h p

-- each flow is that of an item
pub flows_in_list : (P : Flow → Type 0) (fs : List Flow) (list : List ClassedItem) → AllByRecursion P fs → AllByRecursion (λ (c : ClassedItem). P c.class.flow) list → AllByRecursion P (flows_after fs list)
flows_in_list P fs [] h hs = h
flows_in_list P fs (c ∷ cs) h (p, hs) = flows_in_list P (with_flow fs c.class.flow) cs (all_with P fs c.class.flow h p) hs

each_in : (before list : List ClassedItem) → AllByRecursion (λ (c : ClassedItem). IsIn c.class.flow (before ++ list)) list
each_in before [] = tt
each_in before (c ∷ cs) = (mid before, subst (λ (l : List ClassedItem). AllByRecursion (λ (d : ClassedItem). IsIn d.class.flow l) cs) (append_assoc before (c ∷ []) cs) (each_in (before ++ c ∷ []) cs)) where
  mid : (xs : List ClassedItem) → IsIn c.class.flow (xs ++ c ∷ cs)
  mid [] = inl refl
  mid (x ∷ xs) = inr (mid xs)

pub flows_are_in : (list : List ClassedItem) → AllByRecursion (λ f. IsIn f list) (flows_of list)
flows_are_in list = flows_in_list (λ f. IsIn f list) [] list tt (each_in [] list)

-- OF ONE CAPTURE

module _ (class_at : ℕ → Class) (n : ℕ) where
  pub owner_of : ℕ → ℕ
  owner_of a = if nat_lt a n then (class_at a).flow.number else a - n

  below_is : (a : ℕ) → a < n → owner_of a ≡ (class_at a).flow.number
  unfolding owner_of
  below_is a l = let t : nat_lt a n ≡ true = grind (arith, nat_tests) in ap (λ b. if b then (class_at a).flow.number else a - n) t

  pub beyond_is : (f : ℕ) → owner_of (n + f) ≡ f
  unfolding owner_of
  beyond_is f = let t : nat_lt (n + f) n ≡ false = grind (arith, nat_tests) in ap (λ b. if b then (class_at (n + f)).flow.number else (n + f) - n) t ∙ omega arith

  pub own_keys : (list : List ClassedItem) → AllByRecursion (λ (c : ClassedItem). (c.item.a < n) × (c.class ≡ class_at c.item.a)) list → AllByRecursion (λ (c : ClassedItem). owner_of c.item.a ≡ c.class.flow.number) list
  own_keys [] h = tt
  own_keys (c ∷ cs) (h, hs) = (below_is c.item.a h.0 ∙ ap (λ (x : Class). x.flow.number) (sym h.1), own_keys cs hs)

  abbrev RecordFlow : Flow → Type 0
  RecordFlow f = (k : ℕ) × (k < n) × (f ≡ (class_at k).flow)

  record_flows : (list : List ClassedItem) → AllByRecursion (λ (c : ClassedItem). (c.item.a < n) × (c.class ≡ class_at c.item.a)) list → AllByRecursion (λ (c : ClassedItem). RecordFlow c.class.flow) list
  record_flows [] h = tt
  record_flows (c ∷ cs) (h, hs) = ((c.item.a, h.0, ap (λ (x : Class). x.flow) h.1), record_flows cs hs)

  are_of : (list all : List ClassedItem) → AreRecords class_at n all → AllByRecursion (λ (c : ClassedItem). (c.item.a < n) × (c.class ≡ class_at c.item.a)) list → (f : Flow) → RecordFlow f → AreOf f list
  are_of [] all r h f k = tt
  are_of (c ∷ cs) all r (h, hs) f (k, l, e) =
      (λ same. ap (λ (x : Class). x.flow) h.1 ∙ (r.alike c.item.a k h.0 l (ap (λ (x : Class). x.flow.number) (sym h.1) ∙ (same ∙ ap (λ (x : Flow). x.number) e)) ∙ sym e), are_of cs all r hs f (k, l, e))

  pub all_are_of : (list : List ClassedItem) → AreRecords class_at n list → AllByRecursion (λ f. AreOf f list) (flows_of list)
  all_are_of list r = all_then RecordFlow (λ f. AreOf f list) (λ f k. are_of list list r r.each f k) (flows_of list) (flows_in_list RecordFlow [] list tt (record_flows list r.each))

-- THE WHOLE ANSWER

pub map_numbers : {X Y : Type 0} (h : ℕ → Y) (k : X → Y) (d : X) (start : ℕ) (xs : List X) → ((g : ℕ) → g < length xs → h (start + g) ≡ k (get_or xs g d)) → map h (range_with_len start (length xs)) ≡ map k xs
map_numbers h k d start [] e = refl
map_numbers h k d start (x ∷ xs) e =
    let first : h start ≡ k x = let z : start ≡ start + 0 = omega arith in ap h z ∙ e zero (omega arith) in
    let rest = map_numbers h k d (start + 1) xs (λ g l. let z : start + 1 + g ≡ start + suc g = omega arith in ap h z ∙ e (suc g) (omega (arith, l))) in
    ap (λ y. y ∷ map h (range_with_len (start + 1) (length xs))) first ∙ ap (λ ys. k x ∷ ys) rest

map_same : (xs : List ℕ) → map (λ x. x) xs ≡ xs
map_same [] = refl
map_same (x ∷ xs) = ap (λ t. x ∷ t) (map_same xs)

-- ANSWERS OF WHAT IS MADE OF EACH FLOW

abbrev pub leaf_by : Meaning → ℕ → List ClassedItem → ℕ → List Item
leaf_by meaning n list g = in_key_order (flat_map (λ f. given_to g (parts_by meaning n list f)) (flows_of list))

abbrev dropped_by : Meaning → ℕ → List ClassedItem → Flow → List Drop
dropped_by meaning n list f = (parts_by meaning n list f).dropped

abbrev how_many : Meaning → ℕ → List ClassedItem → ℕ → ℕ
how_many meaning n list k = sum_by (λ f. count_by (is_for k) (parts_by meaning n list f).dropped) (flows_of list)

abbrev pub answer_by : Meaning → ℕ → List ClassedItem → ℕ → Answer
answer_by meaning leaves list n = record {
  groups = map (leaf_by meaning n list) (range_with_len 0 leaves);
  drops = map (min 4294967295) (counts_of (map (λ d. d.reason) (flat_map (λ f. (parts_by meaning n list f).dropped) (flows_of list))));
}

count_mapped : (k : ℕ) (ds : List Drop) → count_by (is_at k) (map (λ (d : Drop). d.reason) ds) ≡ count_by (is_for k) ds
count_mapped k [] = refl
count_mapped k (d ∷ ds) = sum_by-cons (λ (r : Reason). cond (is_at k r) 1 0) d.reason (map (λ (d : Drop). d.reason) ds) ∙ (ap (λ m. cond (is_at k d.reason) 1 0 + m) (count_mapped k ds) ∙ sym (sum_by-cons (λ (d : Drop). cond (is_for k d) 1 0) d ds))

count_flat : (k : ℕ) (h : Flow → List Drop) (fs : List Flow) → count_by (is_at k) (map (λ (d : Drop). d.reason) (flat_map h fs)) ≡ sum_by (λ f. count_by (is_for k) (h f)) fs
count_flat k h [] = refl
count_flat k h (f ∷ fs) =
    ap (count_by (is_at k)) (map-append (λ (d : Drop). d.reason) (h f) (flat_map h fs))
    ∙ (sum_by-append (λ (r : Reason). cond (is_at k r) 1 0) (map (λ (d : Drop). d.reason) (h f)) (map (λ (d : Drop). d.reason) (flat_map h fs))
    ∙ (ap (λ m. m + count_by (is_at k) (map (λ (d : Drop). d.reason) (flat_map h fs))) (count_mapped k (h f))
    ∙ (ap (λ m. count_by (is_for k) (h f) + m) (count_flat k h fs) ∙ sym (sum_by-cons (λ f. count_by (is_for k) (h f)) f fs))))

map_each : {X Y : Type 0} (h k : X → Y) → ((x : X) → h x ≡ k x) → (xs : List X) → map h xs ≡ map k xs
map_each h k e [] = refl
map_each h k e (x ∷ xs) = ap (λ y. y ∷ map h xs) (e x) ∙ ap (λ ys. k x ∷ ys) (map_each h k e xs)

as_counts : (meaning : Meaning) (n : ℕ) (list : List ClassedItem) → (answer_by meaning 0 list n).drops ≡ map (λ k. min 4294967295 (how_many meaning n list k)) (range_with_len 0 9)
as_counts meaning n list = map_each (λ k. min 4294967295 (count_by (is_at k) (map (λ (d : Drop). d.reason) (flat_map (dropped_by meaning n list) (flows_of list))))) (λ k. min 4294967295 (how_many meaning n list k)) (λ k. ap (min 4294967295) (count_flat k (dropped_by meaning n list) (flows_of list))) (range_with_len 0 9)

either : (a b c : Bool) → (a ≡ true → c ≡ true) → (b ≡ true → c ≡ true) → (a || b) ≡ true → c ≡ true
either true b c h k q = h refl
either false b c h k q = k q

module _ {W : Type 0} (stands : W → Flow → FlowInput → Parts → Type 0) (makes : W → Meaning) (results : W → List (List Item)) (counts : W → List ℕ) (node : IsNode stands makes results) where
  by_meaning : (class_at : ℕ → Class) (n : ℕ) (w : W) (list : List ClassedItem) (log : List Entry) → OwnsKeys (makes w) → length (counts w) ≡ 9 → AreRecords class_at n list → EndedFor stands results counts n (numbers_of (flows_of list)) w list log
      → record { groups = map in_key_order (results w); drops = counts w } ≡ answer_by (makes w) (length (results w)) list n
  by_meaning class_at n w list log owns nine r s =
      let fs = flows_of list in
      let inside = all_then (λ (e : Entry). (list_any (nat_eq e.number) (flows_in list) || list_any (nat_eq e.number) (numbers_of fs)) ≡ true) (λ (e : Entry). list_any (nat_eq e.number) (numbers_of fs) ≡ true)
      (λ e q. either (list_any (nat_eq e.number) (flows_in list)) (list_any (nat_eq e.number) (numbers_of fs)) (list_any (nat_eq e.number) (numbers_of fs)) (flows_there e.number [] list) (λ z. z) q) log s.known in
      let apart = flows_apart [] list tt in
      let are = all_are_of class_at n list r in
      let groups : map (leaf_by (makes w) n list) (range_with_len 0 (length (results w))) ≡ map in_key_order (results w) =
      map_numbers (leaf_by (makes w) n list) in_key_order [] 0 (results w) (λ g l. let z : 0 + g ≡ g = omega arith in ap (leaf_by (makes w) n list) z
      ∙ sym (group_answers stands makes results counts node (owner_of class_at n) n fs w list log g owns s l (beyond_is class_at n) (own_keys class_at n list r.each) are apart inside)) in
      let counted : map (λ k. min 4294967295 (how_many (makes w) n list k)) (range_with_len 0 9) ≡ counts w =
      ap (λ m. map (λ k. min 4294967295 (how_many (makes w) n list k)) (range_with_len 0 m)) (sym nine)
      ∙ (map_numbers (λ k. min 4294967295 (how_many (makes w) n list k)) (λ (c : ℕ). c) 0 0 (counts w) (λ k l. let z : 0 + k ≡ k = omega arith in ap (λ k. min 4294967295 (how_many (makes w) n list k)) z
      ∙ (sym (drop_answers stands makes results counts node n fs w list log s apart inside are k (subst (λ (m : ℕ). k < m) nine l)) ∙ index_is (counts w) k l)) ∙ map_same (counts w)) in
      λ i. record { groups = sym groups i; drops = (sym counted ∙ sym (as_counts (makes w) n list)) i } where
        index_is : (xs : List ℕ) (k : ℕ) → k < length xs → slice_index xs k ≡ get_or xs k 0
        index_is xs k l = refl

  -- it answers what the plan does that its places follow
  pub work_answers : (plan : Plan) (class_at : ℕ → Class) (n : ℕ) (w : W) (list : List ClassedItem) (log : List Entry) → makes w ≡ flow_meaning plan → length (results w) ≡ leaf_count plan
      → OwnsKeys (flow_meaning plan) → length (counts w) ≡ 9 → AreRecords class_at n list → EndedFor stands results counts n (numbers_of (flows_of list)) w list log
      → record { groups = map in_key_order (results w); drops = counts w } ≡ answer plan list n
  work_answers plan class_at n w list log follows long owns nine r s =
      by_meaning class_at n w list log (subst OwnsKeys (sym follows) owns) nine r s ∙ (λ i. answer_by (follows i) (long i) list n)
