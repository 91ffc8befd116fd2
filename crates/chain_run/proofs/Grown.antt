-- What is built one by one.
use Rattle.std.proofs.Common.{◌≡◌, ℕ, suc, zero, ◌+◌, ◌<◌, List, [], ◌∷◌, ◌++◌, map, length, take, get_or, refl, ap, sym, subst, ◌∙◌, arith}
use Rattle.std.specs.List.{AllByRecursion}
use Rattle.std.proofs.lemmas.List.{take_more, map-append}
use Rattle.chain_run.specs.Built.{AreBuilt}

pub built_more : {X T : Type 0} (R : X → T → Type 0) (xs : List X) (ts : List T) (x : X) (t : T) → AreBuilt R xs ts → R x t → AreBuilt R (xs ++ x ∷ []) (ts ++ t ∷ [])
built_more R [] [] x t h one = (one, tt)
built_more R (y ∷ ys) (u ∷ us) x t (h, hs) one = (h, built_more R ys us x t hs one)
built_more R [] (u ∷ us) x t h one = absurd h
built_more R (y ∷ ys) [] x t h one = absurd h

pub built_long : {X T : Type 0} (R : X → T → Type 0) (xs : List X) (ts : List T) → AreBuilt R xs ts → length xs ≡ length ts
built_long R [] [] h = refl
built_long R (y ∷ ys) (u ∷ us) (h, hs) = ap suc (built_long R ys us hs)
built_long R [] (u ∷ us) h = absurd h
built_long R (y ∷ ys) [] h = absurd h

pub built_each : {X T : Type 0} (R : X → T → Type 0) (Q : T → Type 0) → ((x : X) (t : T) → R x t → Q t) → (xs : List X) (ts : List T) → AreBuilt R xs ts → AllByRecursion Q ts
built_each R Q k [] [] h = tt
built_each R Q k (y ∷ ys) (u ∷ us) (h, hs) = (k y u h, built_each R Q k ys us hs)
built_each R Q k [] (u ∷ us) h = absurd h
built_each R Q k (y ∷ ys) [] h = absurd h

pub built_where : {X T : Type 0} (R : X → T → Type 0) (S : X → Type 0) (Q : T → Type 0) → ((x : X) (t : T) → R x t → S x → Q t) → (xs : List X) (ts : List T) → AreBuilt R xs ts → AllByRecursion S xs → AllByRecursion Q ts
built_where R S Q k [] [] h all = tt
built_where R S Q k (y ∷ ys) (u ∷ us) (h, hs) (one, all) = (k y u h one, built_where R S Q k ys us hs all)
built_where R S Q k [] (u ∷ us) h all = absurd h
built_where R S Q k (y ∷ ys) [] h all = absurd h

-- the elements of the code, seen as those of the definitions
pub built_next : {X Y T : Type 0} (view : Y → X) (R : X → T → Type 0) (ys : List Y) (ts us : List T) (i : ℕ) (y : Y) (t : T) → i < length ys → y ≡ get_or ys i y → AreBuilt R (map view (take i ys)) ts → us ≡ ts ++ t ∷ [] → R (view y) t
    → AreBuilt R (map view (take (i + 1) ys)) us
built_next view R ys ts us i y t lt is h e one =
    subst (AreBuilt R (map view (take (i + 1) ys))) (sym e)
    (subst (λ (xs : List _). AreBuilt R xs (ts ++ t ∷ [])) (sym (ap (map view) (take_more ys i y lt) ∙ map-append view (take i ys) (get_or ys i y ∷ [])))
    (built_more R (map view (take i ys)) ts (view (get_or ys i y)) t h (subst (λ z. R (view z) t) is one)))

pub all_at : {Y X : Type 0} (view : Y → X) (P : X → Type 0) (ys : List Y) (i : ℕ) (y : Y) → i < length ys → y ≡ get_or ys i y → AllByRecursion P (map view ys) → P (view y)
all_at view P ys i y lt is h = subst (λ z. P (view z)) (sym is) (go ys i lt h) where
  go : (zs : List _) (k : ℕ) → k < length zs → AllByRecursion P (map view zs) → P (view (get_or zs k y))
  go [] k l h = absurd (omega (arith, l))
  go (z ∷ zs) zero l (h, hs) = h
  go (z ∷ zs) (suc k) l (h, hs) = go zs k (omega arith) hs
