-- The plan of a chain: its rows of stages and its groups, and what it makes of a flow.
use Rattle.std.specs.Prelude.{ℕ, Bool, List, map, length, Option}
use Rattle.std.specs.List.{sum_by}
use Rattle.brick_spec.specs.Flow.{Flow}
use Rattle.brick_spec.specs.FlowStage.{FlowItem, FlowStage, FlowInput}
use Rattle.brick_spec.specs.GroupOutput as groups
use Rattle.brick_spec.specs.Match.{Match}
use Rattle.brick_spec.specs.Tuple.{tuple_of}
use Rattle.flow_spec.specs.Parts.{Parts, Part, leaf, staged}

-- a row of stages, flow by flow
abbrev pub Row : Type 0
Row = Flow → List FlowStage

-- a group with no groups in it
pub record LeafPlan : Type 0 where
  pub wanted : Option Match
  pub row : Row

-- what stands behind a group's stages: its output, or groups in it
pub data Below : Type 0 where
  Output : Below
  Inner : List LeafPlan → Below

pub record GroupPlan : Type 0 where
  pub wanted : Option Match
  pub row : Row
  pub below : Below

pub record Plan : Type 0 where
  pub row : Row
  pub groups : List GroupPlan

-- how many leaf groups there are
abbrev pub leaves_below : Below → ℕ
leaves_below Output = 1
leaves_below (Inner ls) = length ls

abbrev pub leaf_count : Plan → ℕ
leaf_count plan = sum_by (λ g. leaves_below g.below) plan.groups

-- a group takes an item by its frame, as it is there; one without a match takes every item
abbrev pub takes_by : Option Match → FlowItem → Bool
takes_by wanted x = groups.takes (tuple_of x.item.frame) wanted

abbrev pub leaf_part : Flow → LeafPlan → Part
leaf_part flow l = record { takes = takes_by l.wanted; makes = leaf (l.row flow) }

abbrev pub made_below : Flow → Row → Below → FlowInput → Parts
made_below flow row Output = leaf (row flow)
made_below flow row (Inner ls) = staged (row flow) (map (leaf_part flow) ls)

abbrev pub group_part : Flow → GroupPlan → Part
group_part flow g = record { takes = takes_by g.wanted; makes = made_below flow g.row g.below }

-- What the plan makes of a flow: its items go through the stages and are shared among the groups, and go through the
-- group's stages; where it has groups in it they are shared again.
abbrev pub flow_meaning : Plan → Flow → FlowInput → Parts
flow_meaning plan flow = staged (plan.row flow) (map (group_part flow) plan.groups)
