-- What sharing a flow among groups means, group by group.
use Rattle.std.specs.Prelude.{◌≡◌, Bool, not, ◌&&◌, List, [], ◌∷◌, ◌++◌}
use Rattle.std.specs.List.{list_any}
use Rattle.brick_spec.specs.FlowStage.{FlowItem, FlowInput}
use Rattle.flow_spec.specs.Parts.{Parts, Part, only, beside, none_takes, shared}

-- one of the groups takes the item
abbrev pub some_takes : List Part → FlowItem → Bool
some_takes groups x = list_any (λ (g : Part). g.takes x) groups

-- The first group that takes it is this one, where these stand before it.
abbrev pub is_first : List Part → Part → FlowItem → Bool
is_first earlier g x = not (some_takes earlier x) && g.takes x

-- each group makes lists of the items of which it is the first that takes them, and what no group takes is dropped
abbrev pub picked : List Part → List Part → FlowInput → Parts
picked earlier [] came = none_takes (only (λ x. not (some_takes earlier x)) came)
picked earlier (g ∷ gs) came = beside (g.makes (only (is_first earlier g) came)) (picked (earlier ++ g ∷ []) gs came)

abbrev pub SharingPicksTheFirst : Type 0
SharingPicksTheFirst = (groups : List Part) (came : FlowInput) → shared groups came ≡ picked [] groups came
