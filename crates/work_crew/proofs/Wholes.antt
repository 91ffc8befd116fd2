-- What an ingest that has treated all records did, in the words of the definitions of a run.
use Rattle.std.proofs.Common.{◌≡◌, ℕ, zero, suc, ◌+◌, ◌<◌, ◌≤◌, Bool, true, false, not, ◌&&◌, ◌||◌, nat_eq, nat_lt, List, [], ◌∷◌, ◌++◌, map, length, get_or, cond, sym, refl, ap, ◌∙◌, subst, arith, eq-eqb, ne_eqb, lt-ltb, inl, inr, Some}
use Rattle.std.specs.Prelude.{if◌then◌else◌, slice_get}
use Rattle.std.specs.List.{filter, zip, range_with_len, list_any, Contains}
use Rattle.std.proofs.lemmas.Bool.{le-ltb}
use Rattle.std.proofs.lemmas.Bool.Decides.{eqb_tells}
use Rattle.std.proofs.lemmas.List.{map-append, length-map}
use Rattle.std.proofs.lemmas.Nat.{mod_below}
use Rattle.std.proofs.lemmas.List.Elements.{filter-append}
use Rattle.std.proofs.lemmas.List.Folds.{list_any_at, list_any-append}
use Rattle.std.proofs.lemmas.List.FromFn.{map-range_with_len_more}
use Rattle.brick_spec.specs.Capture.{Contents, Entry}
use Rattle.brick_spec.specs.Flow.{Class}
use Rattle.brick_spec.specs.Item.{Item, item_of, items_from}
use Rattle.flow_spec.specs.Answer.{ClassedItem}
use Rattle.tenant_spec.specs.Records as tenant
use Rattle.tenant_spec.specs.Records.{accepted_items, classed_items, items_of}
use Rattle.run_spec.specs.Books.{Job, goes_to, numbers_for, unsent_in}
use Rattle.lane_spec.specs.LaneBook.{LaneBook}
use Rattle.lane_spec.specs.Pairs.{Pair, numbers_of}
use Rattle.lane_core.specs.Seats.{IngestFacts}
use Rattle.work_crew.specs.Records.{entry_at, records_in, class_in, item_in, record_in, is_big, is_in, is_accepted, is_sent, of_worker, worker_of, numbers_where, waits}
use Rattle.work_crew.specs.Ingested.{HasIngested, HasSentAll}
use Rattle.work_crew.proofs.Ingests.{where_yes, where_no, where_same, in_below, in_more}
use Rattle.work_crew.proofs.Jobs.{entry_is}

-- LISTS OF NUMBERS

next_is : (n : ℕ) → suc n ≡ n + 1
next_is n = omega arith

ranged : {X : Type 0} (f : ℕ → X) (n : ℕ) → map f (range_with_len 0 n) ≡ map f (numbers_where (λ k. true) n)
ranged f zero = refl
ranged f (suc n) =
    ap (λ m. map f (range_with_len 0 m)) (next_is n) ∙ map-range_with_len_more f 0 n n (let z : 0 + n ≡ n = omega arith in z)
    ∙ ap (λ l. l ++ f n ∷ []) (ranged f n) ∙ sym (map-append f (numbers_where (λ k. true) n) (n ∷ []))

-- those that pass one more test
picked : {X : Type 0} (f : ℕ → X) (p : X → Bool) (t : ℕ → Bool) (n : ℕ) → filter p (map f (numbers_where t n)) ≡ map f (numbers_where (λ k. t k && p (f k)) n)
picked f p t zero = refl
picked f p t (suc n) =
    ap (filter p) (map-append f (numbers_where t n) (if t n then n ∷ [] else []))
    ∙ filter-append p (map f (numbers_where t n)) (map f (if t n then n ∷ [] else []))
    ∙ (λ i. picked f p t n i ++ last (t n) i)
    ∙ sym (map-append f (numbers_where (λ k. t k && p (f k)) n) (if (t n && p (f n)) then n ∷ [] else [])) where
      inner : (b : Bool) → cond b (f n ∷ []) [] ≡ map f (if b then n ∷ [] else [])
      inner true = refl
      inner false = refl

      last : (a : Bool) → filter p (map f (if a then n ∷ [] else [])) ≡ map f (if (a && p (f n)) then n ∷ [] else [])
      last true = inner (p (f n))
      last false = refl

and_true : (a b : Bool) → b ≡ true → (a && b) ≡ a
and_true true b e = e
and_true false b e = refl

and_false : (a b : Bool) → b ≡ false → (a && b) ≡ false
and_false true b e = e
and_false false b e = refl

-- those below k
below_is : (t : ℕ → Bool) (k n : ℕ) → k ≤ n → numbers_where (λ m. t m && nat_lt m k) n ≡ numbers_where t k
below_is t zero zero le = refl
below_is t (suc k) zero le = absurd (omega arith)
below_is t k (suc n) le = elim (eqb_tells k (suc n)) [
  | inl h ↦ subst (λ x. numbers_where (λ m. t m && nat_lt m x) (suc n) ≡ numbers_where t x) (sym h.1)
      (where_same (λ m. t m && nat_lt m (suc n)) t (suc n) (λ m lt. and_true (t m) (nat_lt m (suc n)) (lt-ltb m (suc n) lt)))
  | inr h ↦ let ne = h.1 in where_no (λ m. t m && nat_lt m k) n (and_false (t n) (nat_lt n k) (le-ltb n k (omega arith))) ∙ below_is t k n (omega arith)
]

or_true : (a b : Bool) → b ≡ true → (a || b) ≡ true
or_true true b e = refl
or_true false b e = e

or_left : (a b : Bool) → a ≡ true → (a || b) ≡ true
or_left true b e = refl
or_left false b e = absurd (cc)

or_none : (a b : Bool) → a ≡ false → b ≡ false → (a || b) ≡ false
or_none true b e d = e
or_none false b e d = d

-- a number is among those for which the test says so exactly where it does
pub in_where : (t : ℕ → Bool) (n k : ℕ) → k < n → t k ≡ true → is_in (numbers_where t n) k ≡ true
in_where t zero k lt yes_ = absurd (omega arith)
in_where t (suc n) k lt yes_ = elim (eqb_tells k n) [
  | inl h ↦ ap (λ l. is_in l k) (where_yes t n (ap t (sym h.1) ∙ yes_)) ∙ in_more (numbers_where t n) n k ∙ or_true (is_in (numbers_where t n) k) (nat_eq k n) h.0
  | inr h ↦ let ne = h.1 in list_any-append (nat_eq k) (numbers_where t n) (if t n then n ∷ [] else [])
      ∙ or_left (is_in (numbers_where t n) k) (is_in (if t n then n ∷ [] else []) k) (in_where t n k (omega arith) yes_)
]

pub not_where : (t : ℕ → Bool) (n k : ℕ) → t k ≡ false → is_in (numbers_where t n) k ≡ false
not_where t zero k no_ = refl
not_where t (suc n) k no_ = list_any-append (nat_eq k) (numbers_where t n) (if t n then n ∷ [] else [])
    ∙ or_none (is_in (numbers_where t n) k) (is_in (if t n then n ∷ [] else []) k) (not_where t n k no_) (last (t n) refl) where
      last : (b : Bool) → t n ≡ b → is_in (if b then n ∷ [] else []) k ≡ false
      last false e = refl
      last true e = or_none (nat_eq k n) false (ne_eqb k n (λ same. let c : true ≡ false = sym e ∙ ap t (sym same) ∙ no_ in absurd (cc))) refl

itself : (job : Job) (ks : List ℕ) → map (λ (x : ClassedItem). x.item.a) (map (record_in job) ks) ≡ ks
itself job [] = refl
itself job (k ∷ ks) = ap (λ l. k ∷ l) (itself job ks)

item_itself : (job : Job) (ks : List ℕ) → map (λ (i : Item). i.a) (map (item_in job) ks) ≡ ks
item_itself job [] = refl
item_itself job (k ∷ ks) = ap (λ l. k ∷ l) (item_itself job ks)

-- record k is in a log
abbrev pub among : ℕ → List Pair → Bool
among k log = list_any (nat_eq k) (numbers_of log)

-- RECORDS AS THE DEFINITIONS LIST THEM

abbrev pair_item : Class × Item → ClassedItem
pair_item p = record { class = p.0; item = p.1 }

zipped : (cl : ℕ → Class) (en : ℕ → Entry) (es : List Entry) (s : ℕ) → ((j : ℕ) (e : Entry) → slice_get es j ≡ Some e → en (s + j) ≡ e)
    → map pair_item (zip (map cl (range_with_len s (length es))) (items_from s es)) ≡ map (λ k. record { class = cl k; item = item_of k (en k) }) (range_with_len s (length es))
zipped cl en [] s h = refl
zipped cl en (e ∷ es) s h =
    let here : en s ≡ e = ap en (let z : s ≡ s + 0 = omega arith in z) ∙ h 0 e refl in
    let rest = ap (λ m. map pair_item (zip (map cl (range_with_len (s + 1) (length es))) (items_from m es))) (next_is s)
    ∙ zipped cl en es (s + 1) (λ j d at. ap en (let z : s + 1 + j ≡ s + suc j = omega arith in z) ∙ h (suc j) d at) in
    λ i. record { class = cl s; item = item_of s (sym here i) } ∷ rest i

listed : (en : ℕ → Entry) (es : List Entry) (s : ℕ) → ((j : ℕ) (e : Entry) → slice_get es j ≡ Some e → en (s + j) ≡ e)
    → items_from s es ≡ map (λ k. item_of k (en k)) (range_with_len s (length es))
listed en [] s h = refl
listed en (e ∷ es) s h =
    let here : en s ≡ e = ap en (let z : s ≡ s + 0 = omega arith in z) ∙ h 0 e refl in
    let rest = ap (λ m. items_from m es) (next_is s) ∙ listed en es (s + 1) (λ j d at. ap en (let z : s + 1 + j ≡ s + suc j = omega arith in z) ∙ h (suc j) d at) in
    λ i. item_of s (sym here i) ∷ rest i

entries_are : (c : Contents) (j : ℕ) (e : Entry) → slice_get c.entries j ≡ Some e → entry_at c (0 + j) ≡ e
entries_are c j e at = ap (entry_at c) (let z : 0 + j ≡ j = omega arith in z) ∙ entry_is c j e at

module _ (job : Job) where
  classed_are : classed_items job.chain job.capture ≡ map (record_in job) (numbers_where (λ k. true) (records_in job))
  classed_are =
      ap (λ m. map pair_item (zip (map (class_in job) (range_with_len 0 m)) (items_of job.capture))) (length-map job.capture.entries (λ (e : Entry). e.frame))
      ∙ zipped (class_in job) (entry_at job.capture) job.capture.entries 0 (entries_are job.capture)
      ∙ ranged (record_in job) (records_in job)

  items_are : items_of job.capture ≡ map (item_in job) (numbers_where (λ k. true) (records_in job))
  items_are = listed (entry_at job.capture) job.capture.entries 0 (entries_are job.capture) ∙ ranged (item_in job) (records_in job)

  pub bigs_are : tenant.big_items job.chain job.capture ≡ map (item_in job) (numbers_where (is_big job) (records_in job))
  bigs_are = ap (filter (tenant.is_big job.chain)) items_are ∙ picked (item_in job) (tenant.is_big job.chain) (λ k. true) (records_in job)

  -- the records that are neither Big nor in the Book
  pub unsent_is : (b : LaneBook) → unsent_in job b ≡ numbers_where (λ k. not (is_big job k) && not (list_any (among k) b.sent)) (records_in job)
  unsent_is b =
      ap (λ items. map (λ (i : Item). i.a) (filter (λ (i : Item). not (tenant.is_big job.chain i) && not (list_any (among i.a) b.sent)) items)) items_are
      ∙ ap (map (λ (i : Item). i.a)) (picked (item_in job) (λ (i : Item). not (tenant.is_big job.chain i) && not (list_any (among i.a) b.sent)) (λ k. true) (records_in job))
      ∙ item_itself job (numbers_where (λ k. not (is_big job k) && not (list_any (among k) b.sent)) (records_in job))

  module _ (refused : List ℕ) where
    pub accepted_are : accepted_items job.chain refused job.capture ≡ map (record_in job) (numbers_where (is_accepted job refused) (records_in job))
    accepted_are = ap (filter (λ (x : ClassedItem). tenant.is_accepted job.chain refused x.item)) classed_are
        ∙ picked (record_in job) (λ (x : ClassedItem). tenant.is_accepted job.chain refused x.item) (λ k. true) (records_in job)

    -- those of worker w
    pub sent_are : (workers w : ℕ) → filter (goes_to workers w) (accepted_items job.chain refused job.capture) ≡ map (record_in job) (numbers_where (is_sent job refused workers w) (records_in job))
    sent_are workers w = ap (filter (goes_to workers w)) accepted_are ∙ picked (record_in job) (goes_to workers w) (is_accepted job refused) (records_in job)

    pub numbers_are : (workers w : ℕ) → numbers_for workers job refused w ≡ numbers_where (is_sent job refused workers w) (records_in job)
    numbers_are workers w = ap (map (λ (x : ClassedItem). x.item.a)) (sent_are workers w) ∙ itself job (numbers_where (is_sent job refused workers w) (records_in job))

    -- how many accepted ones stand before record k
    before_are : (k : ℕ) → k ≤ records_in job → length (filter (λ (x : ClassedItem). nat_lt x.item.a k) (accepted_items job.chain refused job.capture)) ≡ length (numbers_where (is_accepted job refused) k)
    before_are k le =
        ap length (ap (filter (λ (x : ClassedItem). nat_lt x.item.a k)) accepted_are ∙ picked (record_in job) (λ (x : ClassedItem). nat_lt x.item.a k) (is_accepted job refused) (records_in job))
        ∙ length-map (numbers_where (λ m. is_accepted job refused m && nat_lt m k) (records_in job)) (record_in job)
        ∙ ap length (below_is (is_accepted job refused) k (records_in job) le)

-- WHAT WAS SENT

none_of : {X : Type 0} (p : X → Bool) (d : X) (xs : List X) → ((i : ℕ) → i < length xs → p (get_or xs i d) ≡ false) → list_any p xs ≡ false
none_of p d [] h = refl
none_of p d (x ∷ xs) h = or_none (p x) (list_any p xs) (h 0 (omega arith)) (none_of p d xs (λ i lt. h (suc i) (omega arith)))

module _ (job : Job) (workers : ℕ) (refused : List ℕ) (f : IngestFacts) (some : 1 ≤ workers) (h : HasIngested job workers (records_in job) refused f) where
  goes_below : (k : ℕ) → worker_of job workers k < workers
  goes_below k = mod_below (class_in job k).flow.hash workers (omega arith)

  is_sent_there : (k : ℕ) → k < records_in job → is_big job k ≡ false → is_in refused k ≡ false → list_any (among k) f.sent ≡ true
  is_sent_there k lt small kept =
      let w = worker_of job workers k in
      let accepted : is_accepted job refused k ≡ true = λ i. not (small i) && not (kept i) in
      let passes : is_sent job refused workers w k ≡ true = ap (λ b. b && of_worker job workers w k) accepted ∙ eq-eqb w w refl in
      list_any_at (among k) f.sent w [] (let n = h.count in let b = goes_below k in omega arith)
      (ap (λ ks. list_any (nat_eq k) ks) (h.sent w (goes_below k)) ∙ in_where (is_sent job refused workers w) (records_in job) k lt passes)

  is_nowhere : (k : ℕ) → is_in refused k ≡ true → list_any (among k) f.sent ≡ false
  is_nowhere k out = none_of (among k) [] f.sent (λ w lt. let below : w < workers = let n = h.count in omega arith in
      ap (λ ks. list_any (nat_eq k) ks) (h.sent w below)
      ∙ not_where (is_sent job refused workers w) (records_in job) k (ap (λ b. b && of_worker job workers w k) (and_false (not (is_big job k)) (not (is_in refused k)) (ap not out))))

  told : (k : ℕ) → k < records_in job → (not (is_big job k) && not (list_any (among k) f.sent)) ≡ is_in refused k
  told k lt = by_test (is_big job k) (is_in refused k) refl refl where
    by_test : (a b : Bool) → is_big job k ≡ a → is_in refused k ≡ b → (not (is_big job k) && not (list_any (among k) f.sent)) ≡ is_in refused k
    by_test true true big out = absurd (let c : true ≡ false = sym big ∙ h.fit k out in cc)
    by_test true false big out = ap (λ b. not b && not (list_any (among k) f.sent)) big ∙ sym out
    by_test false true big out = (λ i. not (big i) && not (is_nowhere k out i)) ∙ sym out
    by_test false false big out = (λ i. not (big i) && not (is_sent_there k lt big out i)) ∙ sym out

  unsent_are : (b : LaneBook) → b.sent ≡ f.sent → unsent_in job b ≡ refused
  unsent_are b is =
      unsent_is job b ∙ ap (λ sent. numbers_where (λ k. not (is_big job k) && not (list_any (among k) sent)) (records_in job)) is
      ∙ where_same (λ k. not (is_big job k) && not (list_any (among k) f.sent)) (is_in refused) (records_in job) told
      ∙ sym h.rising

  earlier : (k : ℕ) → Contains refused k → job.chain.buffers ≤ length (filter (λ (x : ClassedItem). nat_lt x.item.a k) (accepted_items job.chain refused job.capture))
  earlier k (i, lt, e) =
      let out : is_in refused k ≡ true = list_any_at (nat_eq k) refused i k lt (eq-eqb k (get_or refused i k) (sym e)) in
      let below : k < records_in job = in_below (is_in refused) (records_in job) k (ap (λ l. is_in l k) (sym h.rising) ∙ out) in
      subst (λ m. job.chain.buffers ≤ m) (sym (before_are job refused k (omega arith))) (h.behind k out)

  pub sent_all : HasSentAll workers job refused f
  sent_all = record {
    count = h.count;
    sent = λ w lt. h.sent w lt ∙ sym (numbers_are job refused workers w);
    unsent = unsent_are;
    refusal = record { only = λ e. h.waiting (ap waits e); earlier = earlier };
    missed = λ e. h.missed (ap waits e);
  }
