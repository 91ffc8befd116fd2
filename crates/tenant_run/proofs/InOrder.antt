-- The records of a capture, one after another.
use Rattle.std.proofs.Common.{◌≡◌, ℕ, zero, suc, ◌+◌, ◌<◌, ◌≤◌, List, [], ◌∷◌, ◌++◌, map, length, take, Bool, true, false, not, ◌&&◌, Some, None, refl, ap, sym, subst, ◌∙◌, arith, cond, length-append}
use Rattle.std.specs.List.{filter, zip, slice_get, AllByRecursion, range_with_len}
use Rattle.std.proofs.lemmas.List.Elements.{filter-append}
use Rattle.brick_spec.specs.Capture.{Contents, Entry}
use Rattle.brick_spec.specs.Flow.{Class}
use Rattle.brick_spec.specs.FlowClass.{classes_of, class_at}
use Rattle.brick_spec.specs.Item.{Item, item_of, items_from}
use Rattle.flow_spec.specs.Answer.{ClassedItem}
use Rattle.chain_spec.specs.ChainSet.{Chain}
use Rattle.tenant_spec.specs.Records.{items_of, classed_items, is_accepted, is_big, accepted_items, big_items}
use Rattle.flow_work.specs.Log.{AreRecords}
use Rattle.flow_work.proofs.Classes.{are_records}
use Rattle.tenant_run.specs.Made.{accepted_upto, big_upto, AreCounted}
use Rattle.tenant_run.specs.declared.records.Counts.{Counts}

-- one more of the first elements
take_next : {X : Type 0} (xs : List X) (k : ℕ) (x : X) → slice_get xs k ≡ Some x → take (suc k) xs ≡ take k xs ++ x ∷ []
take_next [] k x e = absurd (no e) where
  no : None ≡ Some x → ⊥
  no z = cc
take_next (y ∷ ys) zero x e = let same : y ≡ x = cc in ap (λ z. z ∷ []) same
take_next (y ∷ ys) (suc k) x e = ap (λ zs. y ∷ zs) (take_next ys k x e)

all_taken : {X : Type 0} (xs : List X) (n : ℕ) → length xs ≡ n → take n xs ≡ xs
all_taken [] zero e = refl
all_taken [] (suc n) e = refl
all_taken (x ∷ xs) zero e = absurd (no e) where
  no : suc (length xs) ≡ zero → ⊥
  no z = omega (arith, z)
all_taken (x ∷ xs) (suc n) e = ap (λ ys. x ∷ ys) (all_taken xs n (omega (arith, e)))

abbrev classed_pair : Class × Item → ClassedItem
classed_pair p = record { class = p.0; item = p.1 }

classed_get : (cs : List Class) (es : List Entry) (start k : ℕ) (c : Class) (e : Entry) → slice_get cs k ≡ Some c → slice_get es k ≡ Some e
    → slice_get (map classed_pair (zip cs (items_from start es))) k ≡ Some (record { class = c; item = item_of (start + k) e })
classed_get [] es start k c e h l = absurd (no h) where
  no : None ≡ Some c → ⊥
  no z = cc
classed_get (d ∷ cs) [] start k c e h l = absurd (no l) where
  no : None ≡ Some e → ⊥
  no z = cc
classed_get (d ∷ cs) (f ∷ es) start zero c e h l =
    let same : d ≡ c = cc in
    let there : f ≡ e = cc in
    let at : start ≡ start + zero = omega arith in
    λ i. Some (record { class = same i; item = item_of (at i) (there i) })
classed_get (d ∷ cs) (f ∷ es) start (suc k) c e h l =
    let at : suc start + k ≡ start + suc k = omega arith in
    classed_get cs es (suc start) k c e h l ∙ ap (λ n. Some (record { class = c; item = item_of n e })) at

item_get : (es : List Entry) (start k : ℕ) (e : Entry) → slice_get es k ≡ Some e → slice_get (items_from start es) k ≡ Some (item_of (start + k) e)
item_get [] start k e l = absurd (no l) where
  no : None ≡ Some e → ⊥
  no z = cc
item_get (f ∷ es) start zero e l =
    let there : f ≡ e = cc in
    let at : start ≡ start + zero = omega arith in
    λ i. Some (item_of (at i) (there i))
item_get (f ∷ es) start (suc k) e l =
    let at : suc start + k ≡ start + suc k = omega arith in
    item_get es (suc start) k e l ∙ ap (λ n. Some (item_of n e)) at

abbrev pub frames : Contents → List (List ℕ)
frames c = map (λ (e : Entry). e.frame) c.entries

module _ (chain : Chain) (c : Contents) (k : ℕ) (class : Class) (e : Entry)
    (classed : slice_get (classes_of chain.nat (frames c)) k ≡ Some class) (there : slice_get c.entries k ≡ Some e) where
  item_next : take (suc k) (items_of c) ≡ take k (items_of c) ++ item_of k e ∷ []
  item_next = take_next (items_of c) k (item_of k e) (item_get c.entries 0 k e there ∙ ap (λ n. Some (item_of n e)) (let z : 0 + k ≡ k = omega arith in z))

  classed_next : take (suc k) (classed_items chain c) ≡ take k (classed_items chain c) ++ record { class = class; item = item_of k e } ∷ []
  classed_next = take_next (classed_items chain c) k (record { class = class; item = item_of k e })
      (classed_get (classes_of chain.nat (frames c)) c.entries 0 k class e classed there ∙ ap (λ n. Some (record { class = class; item = item_of n e })) (let z : 0 + k ≡ k = omega arith in z))

  accepted_by : accepted_upto chain c (suc k) ≡ accepted_upto chain c k ++ cond (is_accepted chain [] (item_of k e)) (record { class = class; item = item_of k e } ∷ []) []
  accepted_by = ap (λ xs. filter (λ x. is_accepted chain [] x.item) xs) classed_next ∙ filter-append (λ x. is_accepted chain [] x.item) (take k (classed_items chain c)) (record { class = class; item = item_of k e } ∷ [])

  big_by : big_upto chain c (suc k) ≡ big_upto chain c k ++ cond (is_big chain (item_of k e)) (item_of k e ∷ []) []
  big_by = ap (λ xs. filter (is_big chain) xs) item_next ∙ filter-append (is_big chain) (take k (items_of c)) (item_of k e ∷ [])

  pub accepted_next : is_big chain (item_of k e) ≡ false → accepted_upto chain c (suc k) ≡ accepted_upto chain c k ++ record { class = class; item = item_of k e } ∷ []
  accepted_next small = accepted_by ∙ ap (λ b. accepted_upto chain c k ++ cond (not b && true) (record { class = class; item = item_of k e } ∷ []) []) small

  pub accepted_stays : is_big chain (item_of k e) ≡ true → accepted_upto chain c (suc k) ≡ accepted_upto chain c k
  accepted_stays long = accepted_by ∙ (ap (λ b. accepted_upto chain c k ++ cond (not b && true) (record { class = class; item = item_of k e } ∷ []) []) long ∙ nil (accepted_upto chain c k)) where
    nil : (xs : List ClassedItem) → xs ++ [] ≡ xs
    nil [] = refl
    nil (x ∷ xs) = ap (λ ys. x ∷ ys) (nil xs)

  pub big_next : is_big chain (item_of k e) ≡ true → big_upto chain c (suc k) ≡ big_upto chain c k ++ item_of k e ∷ []
  big_next long = big_by ∙ ap (λ b. big_upto chain c k ++ cond b (item_of k e ∷ []) []) long

  pub big_stays : is_big chain (item_of k e) ≡ false → big_upto chain c (suc k) ≡ big_upto chain c k
  big_stays small = big_by ∙ (ap (λ b. big_upto chain c k ++ cond b (item_of k e ∷ []) []) small ∙ nil (big_upto chain c k)) where
    nil : (xs : List Item) → xs ++ [] ≡ xs
    nil [] = refl
    nil (x ∷ xs) = ap (λ ys. x ∷ ys) (nil xs)

  one_on : k + 1 ≡ suc k
  one_on = omega arith

  pub waits_next : is_big chain (item_of k e) ≡ false → accepted_upto chain c (k + 1) ≡ accepted_upto chain c k ++ record { class = class; item = item_of k e } ∷ []
  waits_next small = ap (λ n. accepted_upto chain c n) one_on ∙ accepted_next small

  pub waits_still : is_big chain (item_of k e) ≡ true → accepted_upto chain c (k + 1) ≡ accepted_upto chain c k
  waits_still long = ap (λ n. accepted_upto chain c n) one_on ∙ accepted_stays long

  pub counts_accepted : is_big chain (item_of k e) ≡ false → (counts : Counts) → AreCounted chain c k counts → AreCounted chain c (k + 1) (record { accepted = counts.accepted + 1; big = counts.big })
  counts_accepted small counts h =
      let one = h.accepted in
      let two = h.few in
      let long = ap length (waits_next small) in
      let more = length-append (accepted_upto chain c k) (record { class = class; item = item_of k e } ∷ []) in
      record {
        accepted = omega (arith, one, long, more);
        big = h.big ∙ sym (ap (λ n. length (big_upto chain c n)) one_on ∙ ap length (big_stays small));
        few = omega (arith, two);
      }

  pub counts_big : is_big chain (item_of k e) ≡ true → (counts : Counts) → AreCounted chain c k counts → AreCounted chain c (k + 1) (record { accepted = counts.accepted; big = counts.big + 1 })
  counts_big long counts h =
      let one = h.big in
      let two = h.few in
      let next = ap (λ n. length (big_upto chain c n)) one_on ∙ ap length (big_next long) in
      let more = length-append (big_upto chain c k) (item_of k e ∷ []) in
      record {
        accepted = h.accepted ∙ sym (ap length (waits_still long));
        big = omega (arith, one, next, more);
        few = omega (arith, two);
      }

-- ALL RECORDS

long_items : (start : ℕ) (es : List Entry) → length (items_from start es) ≡ length es
long_items start [] = refl
long_items start (e ∷ es) = ap suc (long_items (suc start) es)

long_classed : (f : ℕ → Class) (start first : ℕ) (es : List Entry) → length (map classed_pair (zip (map f (range_with_len first (length es))) (items_from start es))) ≡ length es
long_classed f start first [] = refl
long_classed f start first (e ∷ es) = ap suc (long_classed f (suc start) (first + 1) es)

long_frames : (c : Contents) → length (frames c) ≡ length c.entries
long_frames c = by c.entries where
  by : (es : List Entry) → length (map (λ (e : Entry). e.frame) es) ≡ length es
  by [] = refl
  by (e ∷ es) = ap suc (by es)

pub big_all : (chain : Chain) (c : Contents) → big_upto chain c (length c.entries) ≡ big_items chain c
big_all chain c = ap (λ xs. filter (is_big chain) xs) (all_taken (items_of c) (length c.entries) (long_items 0 c.entries))

pub accepted_all : (chain : Chain) (c : Contents) → accepted_upto chain c (length c.entries) ≡ accepted_items chain [] c
accepted_all chain c = ap (λ xs. filter (λ x. is_accepted chain [] x.item) xs) (all_taken (classed_items chain c) (length c.entries)
    (ap (λ n. length (map classed_pair (zip (map (class_at chain.nat (frames c)) (range_with_len 0 n)) (items_of c)))) (long_frames c) ∙ long_classed (class_at chain.nat (frames c)) 0 0 c.entries))

-- THEIR CLASSES

abbrev IsRecord : (ℕ → Class) → ℕ → ClassedItem → Type 0
IsRecord f n x = (x.item.a < n) × (x.class ≡ f x.item.a)

each_record : (f : ℕ → Class) (n start : ℕ) (es : List Entry) → start + length es ≤ n → AllByRecursion (IsRecord f n) (map classed_pair (zip (map f (range_with_len start (length es))) (items_from start es)))
each_record f n start [] h = tt
each_record f n start (e ∷ es) h =
    let s : start + 1 ≡ suc start = omega arith in
    ((omega (arith, h), refl), subst (λ m. AllByRecursion (IsRecord f n) (map classed_pair (zip (map f (range_with_len m (length es))) (items_from (suc start) es)))) (sym s) (each_record f n (suc start) es (omega (arith, h))))

all_kept : {X : Type 0} (P : X → Type 0) (p : X → Bool) (xs : List X) → AllByRecursion P xs → AllByRecursion P (filter p xs)
all_kept P p [] h = tt
all_kept P p (x ∷ xs) (h, hs) = by (p x) (all_kept P p xs hs) where
  by : (b : Bool) → AllByRecursion P (filter p xs) → AllByRecursion P (cond b (x ∷ filter p xs) (filter p xs))
  by true k = (h, k)
  by false k = k

pub are_all_records : (chain : Chain) (c : Contents) → AreRecords (class_at chain.nat (frames c)) (length c.entries) (accepted_items chain [] c)
are_all_records chain c = subst (λ n. AreRecords (class_at chain.nat (frames c)) n (accepted_items chain [] c)) (long_frames c)
    (are_records chain.nat (frames c) (accepted_items chain [] c) (all_kept (IsRecord (class_at chain.nat (frames c)) (length (frames c))) (λ x. is_accepted chain [] x.item) (classed_items chain c)
    (subst (λ n. AllByRecursion (IsRecord (class_at chain.nat (frames c)) (length (frames c))) (map classed_pair (zip (map (class_at chain.nat (frames c)) (range_with_len 0 n)) (items_of c)))) (sym (long_frames c))
    (each_record (class_at chain.nat (frames c)) (length (frames c)) 0 c.entries (let l = long_frames c in omega (arith, l))))))
