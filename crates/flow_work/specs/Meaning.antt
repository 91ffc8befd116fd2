-- What is made of each flow, whatever makes it, and the items of a list flow by flow.
use Rattle.std.specs.Prelude.{ℕ, ◌≡◌, List, [], ◌∷◌, map, filter, flat_map, Bool, Some}
use Rattle.brick_spec.specs.Flow.{Flow}
use Rattle.brick_spec.specs.Item.{Item}
use Rattle.brick_spec.specs.FlowStage.{FlowItem, Drop, FlowInput}
use Rattle.flow_spec.specs.Parts.{Parts}
use Rattle.flow_spec.specs.Answer.{ClassedItem, is_of, flow_item, came_of, is_at}

-- what is made of a flow
abbrev pub Meaning : Type 0
Meaning = Flow → FlowInput → Parts

abbrev pub item_of : FlowItem → Item
item_of x = x.item

-- the items of a flow, in their order
abbrev pub came_items : Flow → List ClassedItem → List FlowItem
came_items flow list = map flow_item (filter (is_of flow) list)

-- the items with the number of a flow are of this flow
abbrev pub AreOf : Flow → List ClassedItem → Type 0
AreOf f [] = Unit {0}
AreOf f (c ∷ cs) = (c.class.flow.number ≡ f.number → c.class.flow ≡ f) × AreOf f cs

abbrev pub numbers_of : List Flow → List ℕ
numbers_of flows = map (λ (f : Flow). f.number) flows

-- what is made of the items of a flow that ended, where the capture has n records
abbrev pub parts_by : Meaning → ℕ → List ClassedItem → Flow → Parts
parts_by meaning n list f = meaning f (came_of (Some n) list f)

-- a drop for the reason of this place
abbrev pub is_for : ℕ → Drop → Bool
is_for place d = is_at place d.reason
