use Rattle.std.proofs.Common.{◌≡◌, ◌∙◌, ◌<◌, List, [], ◌∷◌, ℕ, length, Bool, true, false, nat_lt, ◌&&◌, refl, sym, subst, arith}
use Rattle.std.proofs.lemmas.Bool.Decides.{nat_tests}
use Rattle.std.specs.Prelude.{IsTrue}
use Rattle.std.specs.List.{AllByRecursion, list_all}
use Rattle.work_core.proofs.outputs.join_outputs.Goals as goal

all_below : (n : ℕ) (xs : List ℕ) → IsTrue (list_all (λ o. nat_lt o n) xs) → AllByRecursion (λ o. o < n) xs
all_below n [] h = tt
all_below n (x ∷ xs) h = split (nat_lt x n) refl h (all_below n xs) where
  below : nat_lt x n ≡ true → x < n
  below e = grind (arith, nat_tests)

  split : (b : Bool) → nat_lt x n ≡ b → IsTrue (b && list_all (λ o. nat_lt o n) xs) → (IsTrue (list_all (λ o. nat_lt o n) xs) → AllByRecursion (λ o. o < n) xs) → AllByRecursion (λ o. o < n) (x ∷ xs)
  split true e h next = (below e, next h)
  split false e h next = absurd (no h) where
    no : IsTrue false → ⊥
    no z = cc

pub join_lists-requires-clause-within : goal.join_lists-requires-clause-within
join_lists-requires-clause-within c =
    subst (λ (os : List ℕ). AllByRecursion (λ o. o < c.len.result) os) (sym c.as_slice.ensures.value)
    (subst (λ (n : ℕ). AllByRecursion (λ o. o < n) c.in_ok-outputs.outputs.items) (sym (c.len.ensures ∙ c.args.chain.now.outputs.ok.0))
    (subst (AllByRecursion (λ o. o < length c.args.chain.now.outputs.items)) (sym c.in_ok-outputs.ensures) (all_below (length c.args.chain.now.outputs.items) _ c.args.chain.now.right.1.1)))
