-- Groups shared out among outputs.
use Rattle.std.proofs.Common.{◌≡◌, ℕ, zero, suc, ◌+◌, ◌<◌, ◌≤◌, List, [], ◌∷◌, ◌++◌, map, length, nat_eq, true, false, Bool, if◌then◌else◌, refl, ap, sym, ◌∙◌, arith, append-nil, append_assoc, get_or, set}
use Rattle.std.proofs.lemmas.Bool.Decides.{nat_tests}
use Rattle.std.proofs.lemmas.List.{map-append}
use Rattle.std.specs.List.{AllByRecursion, range_with_len}
use Rattle.std.specs.Global.{Vec}
use Rattle.brick_spec.specs.GroupOutput.{in_key_order, all_of}
use Rattle.pcap_io.specs.View.{item_view}
use Rattle.pcap_io.specs.declared.item.Item.{Item as ItemInCode}
use Rattle.flow_spec.specs.Answer.{lists_of, output_list, output_lists}
use Rattle.work_core.specs.Result.{items_view}
use Rattle.work_core.specs.Outputs.{item_lists, grown, shared_out}

-- of these, those that belong to place o, where each has the number of its place
abbrev of_output : {X : Type 0} → ℕ → List ℕ → List X → List X
of_output o [] xs = []
of_output o (k ∷ ks) [] = []
of_output o (k ∷ ks) (x ∷ xs) = if nat_eq k o then x ∷ of_output o ks xs else of_output o ks xs

pub numbers_more : {Y : Type 0} (h : ℕ → Y) (k m : ℕ) → map h (range_with_len k (m + 1)) ≡ map h (range_with_len k m) ++ h (k + m) ∷ []
numbers_more h k zero = let e : k ≡ k + 0 = omega arith in ap (λ y. h y ∷ []) e
numbers_more h k (suc m) =
    let e : k + 1 + m ≡ k + suc m = omega arith in
    let f : suc m + 1 ≡ suc (m + 1) = omega arith in
    ap (λ n. map h (range_with_len k n)) f ∙ (ap (λ t. h k ∷ t) (numbers_more h (k + 1) m) ∙ ap (λ n. h k ∷ (map h (range_with_len (k + 1) m) ++ h n ∷ [])) e)

pub grown_at : (vs : List (Vec ItemInCode)) (o : ℕ) (v v' : Vec ItemInCode) (xs : List ItemInCode) → o < length vs → v ≡ get_or vs o v → v'.items ≡ v.items ++ xs → item_lists (set vs o v') ≡ grown o xs (item_lists vs)
grown_at [] o v v' xs l is e = absurd (omega (arith, l))
grown_at (w ∷ vs) zero v v' xs l is e = ap (λ t. t ∷ item_lists vs) (e ∙ ap (λ (u : Vec ItemInCode). u.items ++ xs) is)
grown_at (w ∷ vs) (suc o) v v' xs l is e = ap (λ t. w.items ∷ t) (grown_at vs o v v' xs (omega arith) is e)

pub shared_more : {X : Type 0} (os : List ℕ) (gs ls : List (List X)) (o : ℕ) (g : List X) → length os ≡ length gs → shared_out (os ++ o ∷ []) (gs ++ g ∷ []) ls ≡ grown o g (shared_out os gs ls)
shared_more [] [] ls o g l = refl
shared_more [] (h ∷ gs) ls o g l = absurd (omega (arith, l))
shared_more (p ∷ os) [] ls o g l = absurd (omega (arith, l))
shared_more (p ∷ os) (h ∷ gs) ls o g l = shared_more os gs (grown p h ls) o g (omega arith)

map_from : {Y : Type 0} (h h' : ℕ → Y) (k m : ℕ) → ((i : ℕ) → k ≤ i → h i ≡ h' i) → map h (range_with_len k m) ≡ map h' (range_with_len k m)
map_from h h' k zero e = refl
map_from h h' k (suc m) e = ap (λ y. y ∷ map h (range_with_len (k + 1) m)) (e k (omega arith)) ∙ ap (λ ys. h' k ∷ ys) (map_from h h' (k + 1) m (λ i l. e i (omega arith)))

abbrev given_if : {X : Type 0} → ℕ → ℕ → List X → List X
given_if o i xs = if nat_eq o i then xs else []

grown_numbers : {X : Type 0} (h : ℕ → List X) (o k m : ℕ) (xs : List X) → grown o xs (map h (range_with_len k m)) ≡ map (λ i. h i ++ given_if (k + o) i xs) (range_with_len k m)
grown_numbers h o k zero xs = refl
grown_numbers h zero k (suc m) xs =
    let here : nat_eq (k + 0) k ≡ true = grind (arith, nat_tests) in
    ap (λ b. (h k ++ (if b then xs else [])) ∷ map h (range_with_len (k + 1) m)) (sym here)
    ∙ ap (λ ys. (h k ++ given_if (k + 0) k xs) ∷ ys) (map_from h (λ i. h i ++ given_if (k + 0) i xs) (k + 1) m (λ i l.
    let apart : nat_eq (k + 0) i ≡ false = grind (arith, nat_tests) in sym (ap (λ b. h i ++ (if b then xs else [])) apart ∙ append-nil (h i))))
grown_numbers h (suc o) k (suc m) xs =
    let apart : nat_eq (k + suc o) k ≡ false = grind (arith, nat_tests) in
    let e : k + 1 + o ≡ k + suc o = omega arith in
    ap (λ y. y ∷ grown o xs (map h (range_with_len (k + 1) m))) (sym (ap (λ b. h k ++ (if b then xs else [])) apart ∙ append-nil (h k)))
    ∙ ap (λ ys. (h k ++ given_if (k + suc o) k xs) ∷ ys) (grown_numbers h o (k + 1) m xs ∙ ap (λ n. map (λ i. h i ++ given_if n i xs) (range_with_len (k + 1) m)) e)

shared_numbers : {X : Type 0} (h : ℕ → List X) (m : ℕ) (os : List ℕ) (gs : List (List X)) → shared_out os gs (map h (range_with_len 0 m)) ≡ map (λ i. h i ++ all_of (of_output i os gs)) (range_with_len 0 m)
shared_numbers h m [] gs = map_from h (λ i. h i ++ []) 0 m (λ i l. sym (append-nil (h i)))
shared_numbers h m (o ∷ os) [] = map_from h (λ i. h i ++ []) 0 m (λ i l. sym (append-nil (h i)))
shared_numbers h m (o ∷ os) (g ∷ gs) =
    ap (λ ls. shared_out os gs ls) (grown_numbers h o 0 m g) ∙ (shared_numbers (λ i. h i ++ given_if (0 + o) i g) m os gs
    ∙ map_from (λ i. (h i ++ given_if (0 + o) i g) ++ all_of (of_output i os gs)) (λ i. h i ++ all_of (of_output i (o ∷ os) (g ∷ gs))) 0 m (λ i l.
    let z : 0 + o ≡ o = omega arith in ap (λ n. (h i ++ given_if n i g) ++ all_of (of_output i os gs)) z ∙ (append_assoc (h i) (given_if o i g) (all_of (of_output i os gs)) ∙ ap (λ t. h i ++ t) (split (nat_eq o i) i)))) where
      split : (b : Bool) (i : ℕ) → (if b then g else []) ++ all_of (of_output i os gs) ≡ all_of (if b then g ∷ of_output i os gs else of_output i os gs)
      split true i = refl
      split false i = refl

-- VIEWS

output_viewed : (o : ℕ) (os : List ℕ) (gs : List (List ItemInCode)) → items_view (all_of (of_output o os gs)) ≡ all_of (lists_of o os (map items_view gs))
output_viewed o [] gs = refl
output_viewed o (p ∷ os) [] = refl
output_viewed o (p ∷ os) (g ∷ gs) = split (nat_eq p o) (output_viewed o os gs) where
  split : (b : Bool) → items_view (all_of (of_output o os gs)) ≡ all_of (lists_of o os (map items_view gs))
      → items_view (all_of (if b then g ∷ of_output o os gs else of_output o os gs)) ≡ all_of (if b then items_view g ∷ lists_of o os (map items_view gs) else lists_of o os (map items_view gs))
  split true h = map-append item_view g (all_of (of_output o os gs)) ∙ ap (λ t. items_view g ++ t) h
  split false h = h

map_twice : {X Y Z : Type 0} (f : Y → Z) (h : X → Y) (xs : List X) → map f (map h xs) ≡ map (λ x. f (h x)) xs
map_twice f h [] = refl
map_twice f h (x ∷ xs) = ap (λ ys. f (h x) ∷ ys) (map_twice f h xs)

pub outputs_are : (many : ℕ) (os : List ℕ) (gs ls : List (List ItemInCode)) → ls ≡ shared_out os gs (map (λ o. let none : List ItemInCode = [] in none) (range_with_len 0 many)) → map (λ items. in_key_order (items_view items)) ls ≡ output_lists many os (map items_view gs)
outputs_are many os gs ls e =
    ap (map (λ items. in_key_order (items_view items))) (e ∙ shared_numbers (λ o. let none : List ItemInCode = [] in none) many os gs)
    ∙ (map_twice (λ items. in_key_order (items_view items)) (λ i. all_of (of_output i os gs)) (range_with_len 0 many)
    ∙ map_from (λ i. in_key_order (items_view (all_of (of_output i os gs)))) (output_list os (map items_view gs)) 0 many (λ i l. ap in_key_order (output_viewed i os gs)))

pub all_at : (P : ℕ → Type 0) (xs : List ℕ) (k : ℕ) → k < length xs → AllByRecursion P xs → P (get_or xs k 0)
all_at P [] k l h = absurd (omega (arith, l))
all_at P (x ∷ xs) zero l (h, hs) = h
all_at P (x ∷ xs) (suc k) l (h, hs) = all_at P xs k (omega arith) hs
