-- The flows of a work end, one after another.
use Rattle.std.proofs.Common.{◌≡◌, ℕ, zero, suc, ◌+◌, ◌<◌, ◌≤◌, List, [], ◌∷◌, ◌++◌, map, length, Bool, true, false, ◌||◌, Option, Some, None, nat_eq, refl, ap, sym, subst, ◌∙◌, get_or, take, drop, arith}
use Rattle.std.proofs.lemmas.Bool.Decides.{nat_tests}
use Rattle.std.proofs.lemmas.List.{map-append, take_more, take_all}
use Rattle.std.specs.List.{list_any, AllByRecursion}
use Rattle.brick_spec.specs.Flow.{Flow}
use Rattle.brick_spec.specs.Item.{Item}
use Rattle.brick_spec.specs.FlowStage.{FlowItem, FlowInput}
use Rattle.flow_spec.specs.Parts.{Parts}
use Rattle.flow_spec.specs.Answer.{ClassedItem, flows_of}
use Rattle.flow_work.specs.Meaning.{Meaning, AreOf, numbers_of}
use Rattle.flow_work.specs.Node.{Went, IsNode}
use Rattle.flow_work.specs.Log.{Entry, EndedFor}
use Rattle.flow_work.proofs.Logs.{GoneBy, ends_more}
use Rattle.flow_work.proofs.Merged.{AreApart}
use Rattle.flow_work.proofs.Flows.{IsIn, one_of_them, flows_are_in, flows_apart}

neither : (a b : Bool) → (a || b) ≡ false → (a ≡ false) × (b ≡ false)
neither true b h = absurd (no' h) where
  no' : true ≡ false → ⊥
  no' z = cc
neither false b h = (refl, h)

turned : (m n : ℕ) → nat_eq m n ≡ nat_eq n m
turned m n = grind (arith, nat_tests)

any_at : (x : ℕ) (xs : List ℕ) (i d : ℕ) → list_any (nat_eq x) xs ≡ false → i < length xs → nat_eq x (get_or xs i d) ≡ false
any_at x [] i d h l = absurd (omega (arith, l))
any_at x (y ∷ ys) zero d h l = (neither (nat_eq x y) (list_any (nat_eq x) ys) h).0
any_at x (y ∷ ys) (suc i) d h l = any_at x ys i d (neither (nat_eq x y) (list_any (nat_eq x) ys) h).1 (omega arith)

apart_before : (xs : List ℕ) (i d : ℕ) → AreApart xs → i < length xs → list_any (nat_eq (get_or xs i d)) (take i xs) ≡ false
apart_before [] i d h l = absurd (omega (arith, l))
apart_before (x ∷ xs) zero d h l = refl
apart_before (x ∷ xs) (suc i) d (h, hs) l =
    let y = get_or xs i d in
    let one : nat_eq y x ≡ false = turned y x ∙ any_at x xs i d h (omega arith) in
    ap (λ b. b || list_any (nat_eq y) (take i xs)) one ∙ apart_before xs i d hs (omega arith)

numbers_get : (fs : List Flow) (i : ℕ) (f : Flow) (d : ℕ) → i < length fs → get_or (numbers_of fs) i d ≡ (get_or fs i f).number
numbers_get [] i f d l = absurd (omega (arith, l))
numbers_get (g ∷ gs) zero f d l = refl
numbers_get (g ∷ gs) (suc i) f d l = numbers_get gs i f d (omega arith)

numbers_take : (fs : List Flow) (i : ℕ) → take i (numbers_of fs) ≡ numbers_of (take i fs)
numbers_take [] zero = refl
numbers_take [] (suc i) = refl
numbers_take (f ∷ fs) zero = refl
numbers_take (f ∷ fs) (suc i) = ap (λ t. f.number ∷ t) (numbers_take fs i)

numbers_long : (fs : List Flow) → length (numbers_of fs) ≡ length fs
numbers_long [] = refl
numbers_long (f ∷ fs) = ap suc (numbers_long fs)

all_at : {X : Type 0} (P : X → Type 0) (xs : List X) (k : ℕ) (d : X) → k < length xs → AllByRecursion P xs → P (get_or xs k d)
all_at P [] k d l h = absurd (omega (arith, l))
all_at P (x ∷ xs) zero d l (h, hs) = h
all_at P (x ∷ xs) (suc k) d l (h, hs) = all_at P xs k d (omega arith) hs

module _ {W : Type 0} (stands : W → Flow → FlowInput → Parts → Type 0) (makes : W → Meaning) (results : W → List (List Item)) (counts : W → List ℕ) where
  -- the first i flows of the list ended
  abbrev pub EndedTo : ℕ → ℕ → W → List ClassedItem → Type 0
  EndedTo n i w list = (log : List Entry) × EndedFor stands results counts n (numbers_of (take i (flows_of list))) w list log

  pub ended_start : (n : ℕ) (w : W) (list : List ClassedItem) (log : List Entry) → EndedFor stands results counts 0 [] w list log → EndedTo n 0 w list
  ended_start n w list log s = (log, record { flows = s.flows; kept = s.kept; drops = s.drops; known = s.known })

  pub ended_step : (n i : ℕ) (old new : W) (list : List ClassedItem) (c : Flow) (added : Parts) → i < length (flows_of list) → c ≡ get_or (flows_of list) i c → EndedTo n i old list → GoneBy stands makes results counts old new c [] (Some n) added → EndedTo n (i + 1) new list
  ended_step n i old new list c added l is (log, s) g =
      let fs = flows_of list in
      let first : list_any (nat_eq c.number) (numbers_of (take i fs)) ≡ false =
      ap (λ (k : ℕ). list_any (nat_eq k) (numbers_of (take i fs))) (ap (λ (f : Flow). f.number) is ∙ sym (numbers_get fs i c 0 l)) ∙ (ap (λ ks. list_any (nat_eq (get_or (numbers_of fs) i 0)) ks) (sym (numbers_take fs i))
      ∙ apart_before (numbers_of fs) i 0 (flows_apart [] list tt) (omega (arith, l, numbers_long fs))) in
      let there : IsIn c list = subst (λ (f : Flow). IsIn f list) (sym is) (all_at (λ f. IsIn f list) fs i c l (flows_are_in list)) in
      let more : numbers_of (take i fs) ++ c.number ∷ [] ≡ numbers_of (take (i + 1) fs) =
      sym (map-append (λ (f : Flow). f.number) (take i fs) (c ∷ [])) ∙ ap numbers_of (ap (λ f. take i fs ++ f ∷ []) is ∙ sym (take_more fs i c l)) in (
        log ++ record { number = c.number; parts = added } ∷ [],
        subst (λ (ks : List ℕ). EndedFor stands results counts n ks new list (log ++ record { number = c.number; parts = added } ∷ [])) more
            (ends_more stands makes results counts n (numbers_of (take i fs)) old new list log c added s g first (λ f are e. one_of_them c f list there are e)),
      )

  pub ended_done : (n i : ℕ) (w : W) (list : List ClassedItem) → length (flows_of list) ≤ i → EndedTo n i w list → (log : List Entry) × EndedFor stands results counts n (numbers_of (flows_of list)) w list log
  ended_done n i w list l (log, s) = (log, subst (λ (fs : List Flow). EndedFor stands results counts n (numbers_of fs) w list log) (take_all i (flows_of list) l) s)
