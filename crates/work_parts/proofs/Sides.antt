-- Lists of lists, side by side.
use Rattle.std.proofs.Common.{◌≡◌, ℕ, zero, suc, ◌<◌, ◌≤◌, List, [], ◌∷◌, ◌++◌, length, max, refl, ap, sym, ◌∙◌, arith, append-nil, get_or, set}
use Rattle.std.specs.List.{slice_index_or}
use Rattle.std.specs.Global.{Vec}
use Rattle.pcap_io.specs.declared.item.Item.{Item}
use Rattle.work_core.specs.Outputs.{item_lists}
use Rattle.work_parts.specs.Wholes.{side_by_side, behind_at}

pub side_nil : {X : Type 0} (xs : List (List X)) → side_by_side xs [] ≡ xs
side_nil [] = refl
side_nil (x ∷ xs) = refl

-- one list more
pub side_more : {X : Type 0} (xs ys : List (List X)) (y : List X) → side_by_side xs (ys ++ y ∷ []) ≡ behind_at (length ys) y (side_by_side xs ys)
side_more [] [] y = refl
side_more [] (z ∷ ys) y = ap (λ l. z ∷ l) (side_more [] ys y)
side_more (x ∷ xs) [] y = ap (λ l. (x ++ y) ∷ l) (side_nil xs)
side_more (x ∷ xs) (z ∷ ys) y = ap (λ l. (x ++ z) ∷ l) (side_more xs ys y)

pub side_at : {X : Type 0} (xs ys : List (List X)) (g : ℕ) → slice_index_or (side_by_side xs ys) g [] ≡ slice_index_or xs g [] ++ slice_index_or ys g []
side_at [] ys g = refl
side_at (x ∷ xs) [] g = sym (append-nil (slice_index_or (x ∷ xs) g []))
side_at (x ∷ xs) (y ∷ ys) zero = refl
side_at (x ∷ xs) (y ∷ ys) (suc g) = side_at xs ys g

pub side_long : {X : Type 0} (xs ys : List (List X)) → length (side_by_side xs ys) ≡ max (length xs) (length ys)
side_long [] ys = omega arith
side_long (x ∷ xs) [] = omega arith
side_long (x ∷ xs) (y ∷ ys) = let e : length (side_by_side xs ys) ≡ max (length xs) (length ys) = side_long xs ys in omega (arith, e)

-- behind a list that is there
pub set_behind : (vs : List (Vec Item)) (place : ℕ) (v v' : Vec Item) (items : List Item) → place < length vs → v ≡ get_or vs place v → v'.items ≡ v.items ++ items → item_lists (set vs place v') ≡ behind_at place items (item_lists vs)
set_behind [] place v v' items l is e = absurd (omega (arith, l))
set_behind (w ∷ vs) zero v v' items l is e = ap (λ t. t ∷ item_lists vs) (e ∙ ap (λ (u : Vec Item). u.items ++ items) is)
set_behind (w ∷ vs) (suc place) v v' items l is e = ap (λ t. w.items ∷ t) (set_behind vs place v v' items (omega (arith, l)) is e)

-- one list more behind all
pub push_behind : (vs : List (Vec Item)) (place : ℕ) (v : Vec Item) → length vs ≤ place → item_lists (vs ++ v ∷ []) ≡ behind_at place v.items (item_lists vs)
push_behind [] place v l = refl
push_behind (w ∷ vs) zero v l = absurd (omega (arith, l))
push_behind (w ∷ vs) (suc place) v l = ap (λ t. w.items ∷ t) (push_behind vs place v (omega (arith, l)))
