-- The accepted records of a tenant are records of its capture.
use Rattle.std.proofs.Common.{◌≡◌, ℕ, suc, ◌+◌, ◌<◌, ◌≤◌, List, [], ◌∷◌, map, length, Bool, true, false, refl, ap, sym, subst, arith, cond}
use Rattle.std.specs.List.{filter, zip, AllByRecursion, range_with_len}
use Rattle.brick_spec.specs.Capture.{Contents, Entry}
use Rattle.brick_spec.specs.Flow.{Class}
use Rattle.brick_spec.specs.FlowClass.{class_at}
use Rattle.brick_spec.specs.Item.{Item, items_from}
use Rattle.flow_spec.specs.Answer.{ClassedItem}
use Rattle.chain_spec.specs.ChainSet.{Chain}
use Rattle.tenant_spec.specs.Records.{items_of, classed_items, is_accepted, accepted_items}
use Rattle.flow_work.specs.Log.{AreRecords}
use Rattle.flow_work.proofs.Classes.{are_records}

abbrev pub frames : Contents → List (List ℕ)
frames c = map (λ (e : Entry). e.frame) c.entries

abbrev classed_pair : Class × Item → ClassedItem
classed_pair p = record { class = p.0; item = p.1 }

abbrev IsRecord : (ℕ → Class) → ℕ → ClassedItem → Type 0
IsRecord f n x = (x.item.a < n) × (x.class ≡ f x.item.a)

each_record : (f : ℕ → Class) (n start : ℕ) (es : List Entry) → start + length es ≤ n → AllByRecursion (IsRecord f n) (map classed_pair (zip (map f (range_with_len start (length es))) (items_from start es)))
each_record f n start [] h = tt
each_record f n start (e ∷ es) h =
    let s : start + 1 ≡ suc start = omega arith in
    ((omega (arith, h), refl), subst (λ m. AllByRecursion (IsRecord f n) (map classed_pair (zip (map f (range_with_len m (length es))) (items_from (suc start) es)))) (sym s) (each_record f n (suc start) es (omega (arith, h))))

all_kept : {X : Type 0} (P : X → Type 0) (p : X → Bool) (xs : List X) → AllByRecursion P xs → AllByRecursion P (filter p xs)
all_kept P p [] h = tt
all_kept P p (x ∷ xs) (h, hs) = by (p x) (all_kept P p xs hs) where
  by : (b : Bool) → AllByRecursion P (filter p xs) → AllByRecursion P (cond b (x ∷ filter p xs) (filter p xs))
  by true k = (h, k)
  by false k = k

long_frames : (c : Contents) → length (frames c) ≡ length c.entries
long_frames c = by c.entries where
  by : (es : List Entry) → length (map (λ (e : Entry). e.frame) es) ≡ length es
  by [] = refl
  by (e ∷ es) = ap suc (by es)

pub accepted_are : (chain : Chain) (refused : List ℕ) (c : Contents) → AreRecords (class_at chain.nat (frames c)) (length c.entries) (accepted_items chain refused c)
accepted_are chain refused c = subst (λ n. AreRecords (class_at chain.nat (frames c)) n (accepted_items chain refused c)) (long_frames c)
    (are_records chain.nat (frames c) (accepted_items chain refused c) (all_kept (IsRecord (class_at chain.nat (frames c)) (length (frames c))) (λ x. is_accepted chain refused x.item) (classed_items chain c)
    (subst (λ n. AllByRecursion (IsRecord (class_at chain.nat (frames c)) (length (frames c))) (map classed_pair (zip (map (class_at chain.nat (frames c)) (range_with_len 0 n)) (items_of c)))) (sym (long_frames c))
    (each_record (class_at chain.nat (frames c)) (length (frames c)) 0 c.entries (let l = long_frames c in omega (arith, l))))))
