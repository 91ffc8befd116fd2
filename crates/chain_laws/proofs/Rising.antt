-- A list in key order in which no key stands twice rises strictly.
use Rattle.std.proofs.Common.{◌≡◌, ℕ, ◌≤◌, Bool, true, false, cond, nat_eq, nat_lt, List, [], ◌∷◌, Ordering, Less, Equal, Greater, nat_cmp, is_lt, refl, sym, ◌∙◌, arith}
use Rattle.std.proofs.lemmas.Bool.Decides.{nat_tests}
use Rattle.std.specs.Ordering.{ordering_then}
use Rattle.std.specs.List.{AllByRecursion}
use Rattle.brick_spec.specs.GroupOutput.{comes_before, in_key_order}
use Rattle.brick_spec.specs.Item.{Item}
use Rattle.group_merge.proofs.Order.{is_ordered}
use Rattle.flow_work.proofs.Answers.{weak}
use Rattle.chain_laws.specs.Keys.{RisesStrictly}
use Rattle.chain_laws.proofs.Totals.{total}
use Rattle.chain_laws.proofs.Weights.{item_weight, hit, hit_itself}

-- none comes before one that stands earlier
abbrev pub Rises : List Item → Type 0
Rises [] = Unit {0}
Rises (x ∷ xs) = AllByRecursion (λ y. comes_before y x ≡ false) xs × Rises xs

pub order_rises : (xs : List Item) → Rises (in_key_order xs)
order_rises xs = is_ordered comes_before weak xs

true_not : true ≡ false → ⊥
true_not e = cc

first_part : (p q : Bool) (o : Ordering) → is_lt (ordering_then (cond p Less (cond q Equal Greater)) o) ≡ false → (p ≡ false) × (q ≡ true → is_lt o ≡ false)
first_part true q o e = absurd (true_not e)
first_part false true o e = (refl, λ z. e)
first_part false false o e = (refl, λ z. absurd (true_not (sym z)))

not_less : (p q : Bool) → is_lt (cond p Less (cond q Equal Greater)) ≡ false → p ≡ false
not_less true q e = absurd (true_not e)
not_less false q e = refl

neither : (m k : ℕ) → nat_lt m k ≡ false → nat_lt k m ≡ false → m ≡ k
neither m k e f = grind (arith, nat_tests)

as_tested : (m k : ℕ) → m ≡ k → nat_eq m k ≡ true
as_tested m k e = grind (arith, nat_tests)

-- of two items neither comes before the other: they have one key
same_key : (x y : Item) → comes_before x y ≡ false → comes_before y x ≡ false → (y.a ≡ x.a) × (y.j ≡ x.j)
same_key x y e f =
    let one = first_part (nat_lt x.a y.a) (nat_eq x.a y.a) (nat_cmp x.j y.j) e in
    let two = first_part (nat_lt y.a x.a) (nat_eq y.a x.a) (nat_cmp y.j x.j) f in
    let a : y.a ≡ x.a = neither y.a x.a two.0 one.0 in
    let j : y.j ≡ x.j = neither y.j x.j (not_less (nat_lt y.j x.j) (nat_eq y.j x.j) (two.1 (as_tested y.a x.a a))) (not_less (nat_lt x.j y.j) (nat_eq x.j y.j) (one.1 (as_tested x.a y.a (sym a)))) in
    (a, j)

later : (x : Item) (ys : List Item) → AllByRecursion (λ y. comes_before y x ≡ false) ys → total (item_weight (hit x.a x.j)) ys ≡ 0 → AllByRecursion (λ y. comes_before x y ≡ true) ys
later x [] h none = tt
later x (y ∷ ys) (h, hs) none = (split (comes_before x y) refl, later x ys hs (omega (arith, none))) where
  split : (b : Bool) → comes_before x y ≡ b → b ≡ true
  split true e = refl
  split false e =
      let same = same_key x y e h in
      let one : hit x.a x.j y.a y.j ≡ 1 = (λ i. hit x.a x.j (same.0 i) (same.1 i)) ∙ hit_itself x.a x.j in
      absurd (omega (arith, none, one))

pub rises_strictly : (xs : List Item) → Rises xs → ((a j : ℕ) → total (item_weight (hit a j)) xs ≤ 1) → RisesStrictly xs
rises_strictly [] h once = tt
rises_strictly (x ∷ xs) (h, hs) once =
    let none : total (item_weight (hit x.a x.j)) xs ≡ 0 = omega (arith, once x.a x.j, hit_itself x.a x.j) in
    (later x xs h none, rises_strictly xs hs (λ a j. omega (arith, once a j)))
