-- Where the last epoch begins.
use Rattle.std.proofs.Common.{◌≡◌, ◌∙◌, ℕ, suc, ◌-◌, List, [], ◌∷◌, length, map, Option, Some, None, sym, ap, subst, arith}
use Rattle.std.specs.List.{slice_get}
use Rattle.chain_spec.specs.StageWalk.{last_begin}
use Rattle.chain_types.specs.StageView.{change_view}
use Rattle.chain_types.specs.declared.stage.Change.{Change}

some_is : (x y : Change) → Some x ≡ Some y → x ≡ y
some_is x y e = ap (λ o. elim o [ None ↦ x | Some z ↦ z ]) e

pub last_is : (cs : List Change) (c : Change) → slice_get cs (length cs - 1) ≡ Some c → c.from ≡ last_begin (map change_view cs)
last_is [] c e = cc
last_is (x ∷ []) c e = ap (λ (d : Change). d.from) (sym (some_is x c e))
last_is (x ∷ y ∷ ys) c e =
    let n : length (x ∷ y ∷ ys) - 1 ≡ suc (length (y ∷ ys) - 1) = omega arith in
    last_is (y ∷ ys) c (subst (λ k. slice_get (x ∷ y ∷ ys) k ≡ Some c) n e)
