-- Values that were made one by one.
use Rattle.std.proofs.Common.{◌≡◌, ℕ, zero, suc, List, [], ◌∷◌, map, length, refl, ap, ◌∙◌, arith}
use Rattle.std.specs.Prelude.{Result, Ok, Err, IfOk}
use Rattle.work_crew.specs.Members.{Members}

-- what is said of each value and of what it was made of is said of the lists
pub all_alike : {A B C E : Type 0} (f : A → C) (g : B → C) (xs : List A) (rs : List (Result B E)) (ys : List B) → length rs ≡ length xs → Members (λ x r. IfOk r (λ y. g y ≡ f x)) xs rs → map Ok ys ≡ rs → map g ys ≡ map f xs
all_alike f g [] [] [] n h is = refl
all_alike f g [] [] (y ∷ ys) n h is = absurd (cc)
all_alike f g [] (r ∷ rs) ys n h is = absurd (omega arith)
all_alike f g (x ∷ xs) [] ys n h is = absurd (omega arith)
all_alike f g (x ∷ xs) (r ∷ rs) [] n h is = absurd (cc)
all_alike f g (x ∷ xs) (Err e ∷ rs) (y ∷ ys) n h is = absurd (cc)
all_alike f g (x ∷ xs) (Ok z ∷ rs) (y ∷ ys) n h is =
    let same : y ≡ z = cc in
    let rest : map Ok ys ≡ rs = cc in
    λ i. (ap g same ∙ h 0 x (Ok z) refl refl) i ∷ all_alike f g xs rs ys (omega arith) (λ k a b at at'. h (suc k) a b at at') rest i
