-- The records of a capture flow by flow: each weighs once, and each flow has its own number behind all records.
use Rattle.std.proofs.Common.{◌≡◌, ℕ, suc, ◌+◌, ◌<◌, ◌≤◌, Bool, true, false, cond, nat_eq, nat_le, List, [], ◌∷◌, length, map, refl, arith}
use Rattle.std.proofs.lemmas.Bool.Decides.{nat_tests}
use Rattle.std.specs.List.{filter, zip, AllByRecursion}
use Rattle.brick_spec.specs.Capture.{Entry, Contents}
use Rattle.brick_spec.specs.Flow.{Flow, Class}
use Rattle.brick_spec.specs.FlowClass.{classes_of}
use Rattle.brick_spec.specs.Item.{Item, items_from}
use Rattle.flow_spec.specs.Answer.{ClassedItem, is_of, flow_item, flows_of}
use Rattle.flow_work.specs.Meaning.{numbers_of}
use Rattle.flow_work.proofs.Flows.{flows_apart}
use Rattle.flow_work.proofs.Merged.{AreApart}
use Rattle.chain_spec.specs.ChainSet.{Chain}
use Rattle.tenant_spec.specs.Records.{items_of, classed_items, is_accepted, accepted_items}
use Rattle.chain_laws.specs.Keys.{AreOfRecords}
use Rattle.chain_laws.proofs.Totals.{total, total_map, total_less, total_sum, total_none, total_filter, once}
use Rattle.chain_laws.proofs.Weights.{Weight, weight, item_weight, early, at_and_behind}
use Rattle.chain_laws.proofs.Stages.{rest}

-- FLOW BY FLOW

one_number : (n k m : ℕ) → nat_eq n k ≡ true → nat_eq n m ≡ true → k ≡ m
one_number n k m e f = grind (arith, nat_tests)

module _ (w : ClassedItem → ℕ) (fs : List Flow) (apart : AreApart (numbers_of fs)) where
  of_one : (c : ClassedItem) → total (λ f. cond (is_of f c) (w c) 0) fs ≤ w c
  of_one c =
      let t : ℕ → Bool = nat_eq c.class.flow.number in
      omega (arith, total_map (λ m. cond (t m) (w c) 0) (λ (f : Flow). f.number) fs, once t (one_number c.class.flow.number) (w c) (numbers_of fs) apart)

  pub each_once : (list : List ClassedItem) → total (λ f. total w (filter (is_of f) list)) fs ≤ total w list
  each_once [] = omega (arith, total_none (λ (f : Flow). 0) (λ f. refl) fs)
  each_once (c ∷ cs) =
      omega (
        arith,
        total_less (λ f. total w (filter (is_of f) (c ∷ cs))) (λ f. cond (is_of f c) (w c) 0 + total w (filter (is_of f) cs)) (λ f. split (is_of f c) (filter (is_of f) cs)) fs,
        total_sum (λ f. cond (is_of f c) (w c) 0) (λ f. total w (filter (is_of f) cs)) fs,
        of_one c,
        each_once cs,
      ) where
        split : (b : Bool) (rest : List ClassedItem) → total w (cond b (c ∷ rest) rest) ≤ cond b (w c) 0 + total w rest
        split true rest = omega arith
        split false rest = omega arith

-- what came of a flow weighs as its items do
pub came_weighs : (v : Weight) (f : Flow) (list : List ClassedItem) → total (weight v) (map flow_item (filter (is_of f) list)) ≡ total (λ (c : ClassedItem). item_weight v c.item) (filter (is_of f) list)
came_weighs v f list = total_map (weight v) flow_item (filter (is_of f) list)

pub came_once : (v : Weight) (list : List ClassedItem) → total (λ f. total (weight v) (map flow_item (filter (is_of f) list))) (flows_of list) ≤ total (λ (c : ClassedItem). item_weight v c.item) list
came_once v list =
    let w = λ (c : ClassedItem). item_weight v c.item in
    omega (
      arith,
      total_less (λ f. total (weight v) (map flow_item (filter (is_of f) list))) (λ f. total w (filter (is_of f) list)) (λ f. same f) (flows_of list),
      each_once w (flows_of list) (flows_apart [] list tt) list,
    ) where
      same : (f : Flow) → total (weight v) (map flow_item (filter (is_of f) list)) ≤ total (λ (c : ClassedItem). item_weight v c.item) (filter (is_of f) list)
      same f = omega (arith, came_weighs v f list)

-- ENDS

module _ (a j n : ℕ) where
  one_end : (k m : ℕ) → nat_eq (n + k) a ≡ true → nat_eq (n + m) a ≡ true → k ≡ m
  one_end k m e f = grind (arith, nat_tests)

  -- at most one flow ends with this number
  pub ends_once : (list : List ClassedItem) → total (λ f. rest a j f n) (flows_of list) ≤ 1
  ends_once list =
      let fs = flows_of list in
      omega (arith, total_map (λ m. cond (nat_eq (n + m) a) 1 0) (λ (f : Flow). f.number) fs, once (λ m. nat_eq (n + m) a) one_end 1 (numbers_of fs) (flows_apart [] list tt))

  -- none with that of a record
  pub no_end : a < n → (f : Flow) → rest a j f n ≡ 0
  no_end l f = split (nat_eq (n + f.number) a) refl where
    beyond : nat_eq (n + f.number) a ≡ true → ⊥
    beyond e = grind (arith, nat_tests)

    split : (b : Bool) → nat_eq (n + f.number) a ≡ b → ◌≡◌ {A = ℕ} (cond b 1 0) 0
    split true e = absurd (beyond e)
    split false e = refl

-- RECORDS

records_once : (a k : ℕ) (es : List Entry) → total (item_weight (early a)) (items_from k es) ≤ cond (nat_le k a) 1 0
records_once a k [] = split (nat_le k a) where
  split : (b : Bool) → 0 ≤ cond b 1 0
  split b = omega arith
records_once a k (e ∷ es) = omega (arith, records_once a (suc k) es, at_and_behind a k)

none_behind : (a k : ℕ) (es : List Entry) → k + length es ≤ a → total (item_weight (early a)) (items_from k es) ≡ 0
none_behind a k [] l = refl
none_behind a k (e ∷ es) l = omega (arith, none_behind a (suc k) es (omega (arith, l)), other (nat_eq k a) refl) where
  no' : nat_eq k a ≡ true → ⊥
  no' e = grind (arith, nat_tests)

  other : (b : Bool) → nat_eq k a ≡ b → ◌≡◌ {A = ℕ} (cond b 1 0) 0
  other true e = absurd (no' e)
  other false e = refl

zipped : (f : Item → ℕ) (cs : List Class) (is : List Item) → total (λ (c : ClassedItem). f c.item) (map (λ (p : Class × Item). record { class = p.0; item = p.1 }) (zip cs is)) ≤ total f is
zipped f [] is = omega arith
zipped f (c ∷ cs) [] = omega arith
zipped f (c ∷ cs) (i ∷ is) = omega (arith, zipped f cs is)

module _ (chain : Chain) (refused : List ℕ) (c : Contents) (a : ℕ) where
  abbrev w : ClassedItem → ℕ
  w x = item_weight (early a) x.item

  of_records : total w (accepted_items chain refused c) ≤ total (item_weight (early a)) (items_of c)
  of_records =
      omega (
        arith,
        total_filter w (λ x. is_accepted chain refused x.item) (classed_items chain c),
        zipped (item_weight (early a)) (classes_of chain.nat (map (λ (e : Entry). e.frame) c.entries)) (items_of c),
      )

  pub accepted_once : total w (accepted_items chain refused c) ≤ 1
  accepted_once = omega (arith, of_records, records_once a 0 c.entries, few (nat_le 0 a)) where
    few : (b : Bool) → cond b 1 0 ≤ 1
    few true = omega arith
    few false = omega arith

  pub accepted_none : length c.entries ≤ a → total w (accepted_items chain refused c) ≡ 0
  accepted_none l = omega (arith, of_records, none_behind a 0 c.entries (omega (arith, l)))

-- of any records, each of its own
module _ (n a : ℕ) where
  abbrev v : ClassedItem → ℕ
  v x = item_weight (early a) x.item

  others_none : (k : ℕ) (list : List ClassedItem) → nat_eq k a ≡ true → AllByRecursion (λ (d : ClassedItem). nat_eq k d.item.a ≡ false) list → total v list ≡ 0
  others_none k [] e h = refl
  others_none k (d ∷ ds) e (h, hs) = omega (arith, others_none k ds e hs, other (nat_eq d.item.a a) refl) where
    clash : nat_eq d.item.a a ≡ true → ⊥
    clash t = grind (arith, nat_tests)

    other : (b : Bool) → nat_eq d.item.a a ≡ b → ◌≡◌ {A = ℕ} (cond b (cond (nat_eq d.item.j 0) 1 2) 0) 0
    other true t = absurd (clash t)
    other false t = refl

  pub of_records_once : (list : List ClassedItem) → AreOfRecords n list → total v list ≤ 1
  of_records_once [] h = omega arith
  of_records_once (c ∷ cs) ((low, zeroth, apart), hs) = split (nat_eq c.item.a a) (nat_eq c.item.j 0) refl (first c.item.j zeroth) (of_records_once cs hs) where
    first : (j : ℕ) → j ≡ 0 → nat_eq j 0 ≡ true
    first j e = grind (arith, nat_tests)

    split : (b d : Bool) → nat_eq c.item.a a ≡ b → d ≡ true → total v cs ≤ 1 → cond b (cond d 1 2) 0 + total v cs ≤ 1
    split true true e t next = omega (arith, others_none c.item.a cs e apart)
    split true false e t next = cc
    split false d e t next = omega (arith, next)

  pub of_records_none : n ≤ a → (list : List ClassedItem) → AreOfRecords n list → total v list ≡ 0
  of_records_none l [] h = refl
  of_records_none l (c ∷ cs) ((low, zeroth, apart), hs) = omega (arith, of_records_none l cs hs, other (nat_eq c.item.a a) refl) where
    clash : nat_eq c.item.a a ≡ true → ⊥
    clash t = grind (arith, nat_tests)

    other : (b : Bool) → nat_eq c.item.a a ≡ b → ◌≡◌ {A = ℕ} (cond b (cond (nat_eq c.item.j 0) 1 2) 0) 0
    other true t = absurd (clash t)
    other false t = refl
