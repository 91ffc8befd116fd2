-- How far the backends have come on their ways over the places.
use Rattle.std.specs.Prelude.{◌≡◌, ℕ, ◌<◌, List, [], length}
use Rattle.std.specs.List.{slice_index_or}
use Rattle.brick_spec.specs.Balance.{Places, offset_of, skip_of}
use Rattle.lb_maglev.specs.Passed.{ArePassed}
use Rattle.lb_maglev.specs.declared.walk.Walk.{Walk}

-- the walk goes over the places in the name's order, and those that it has passed are taken
pub record IsWalk (places : Places) (name : List ℕ) (walk : Walk) : Type 0 where
  pub offset : walk.offset ≡ offset_of name
  pub skip : walk.skip ≡ skip_of name
  pub passed : ArePassed places walk.offset walk.skip walk.next

-- these are walks of the first names
abbrev pub AreWalks : Places → List (List ℕ) → List Walk → Type 0
AreWalks places names walks =
    (b : ℕ) (none : Walk) → b < length walks → IsWalk places (slice_index_or names b []) (slice_index_or walks b none)
