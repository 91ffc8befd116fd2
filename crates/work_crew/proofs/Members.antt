-- Lists place by place.
use Rattle.std.proofs.Common.{◌≡◌, ℕ, zero, suc, List, [], ◌∷◌, ◌++◌, length, refl, ap, ◌∙◌, subst, Some, arith}
use Rattle.std.proofs.Math.ListN.{take}
use Rattle.std.proofs.Math.Seq.{get_or-append_seam}
use Rattle.std.proofs.lemmas.List.{length-append}
use Rattle.work_crew.specs.Members.{Members}
use Rattle.std.specs.Prelude.{slice_get, All}

pub some_is : {A : Type 0} {x y : A} → Some x ≡ Some y → x ≡ y
some_is e = cc

pub last_of_all : {A : Type 0} (P : A → Type 0) (xs ys : List A) (x : A) → ys ≡ xs ++ x ∷ [] → All P ys → P x
last_of_all P xs ys x is h =
    let h' : All P (xs ++ x ∷ []) = subst (All P) is h in
    subst P (get_or-append_seam xs x [] x) (h' (length xs) x (let n = length-append xs (x ∷ []) in omega arith))

pub last_at : {A : Type 0} (xs : List A) (x : A) → slice_get (xs ++ x ∷ []) (length xs) ≡ Some x
last_at [] x = refl
last_at (a ∷ xs) x = last_at xs x

pub before_at : {A : Type 0} (xs : List A) (x : A) (t : ℕ) (a : A) → slice_get xs t ≡ Some a → slice_get (xs ++ x ∷ []) t ≡ Some a
before_at [] x t a at = absurd (cc)
before_at (b ∷ xs) x zero a at = at
before_at (b ∷ xs) x (suc t) a at = before_at xs x t a at

-- a member more at the end of the second list
pub more : {A B : Type 0} (P : A → B → Type 0) (xs : List A) (ys : List B) (y : B) → Members P xs ys → ((x : A) → slice_get xs (length ys) ≡ Some x → P x y) → Members P xs (ys ++ y ∷ [])
more P [] ys y h last t a b at_a at_b = absurd (cc)
more P (x ∷ xs) [] y h last zero a b at_a at_b = subst (P a) (some_is at_b) (last a at_a)
more P (x ∷ xs) [] y h last (suc t) a b at_a at_b = absurd (cc)
more P (x ∷ xs) (z ∷ ys) y h last zero a b at_a at_b = h zero a b at_a at_b
more P (x ∷ xs) (z ∷ ys) y h last (suc t) a b at_a at_b = more P xs ys y (λ t a b at_a at_b. h (suc t) a b at_a at_b) last t a b at_a at_b

pub fewer : {A B : Type 0} (P : A → B → Type 0) (xs : List A) (ys zs : List B) (y : B) → zs ≡ ys ++ y ∷ [] → Members P xs zs → Members P xs ys
fewer P xs ys zs y is h t a b at_a at_b = h t a b at_a (ap (λ l. slice_get l t) is ∙ before_at ys y t b at_b)

pub take_front : {A : Type 0} (n : ℕ) (xs ys : List A) → length xs ≡ n → take n (xs ++ ys) ≡ xs
take_front zero [] ys e = refl
take_front (suc n) [] ys e = absurd (cc)
take_front zero (x ∷ xs) ys e = absurd (cc)
take_front (suc n) (x ∷ xs) ys e = ap (λ l. x ∷ l) (take_front n xs ys (let e' = e in omega arith))

pub members_none : {A B : Type 0} (P : A → B → Type 0) (xs : List A) → Members P xs []
members_none P xs t x y at_x at_y = absurd (cc)
