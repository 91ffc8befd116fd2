-- Groups of a flow: stages, and then a list for each leaf group.
use Rattle.std.specs.Prelude.{Bool, not, List, [], ◌∷◌, ◌++◌, map, filter}
use Rattle.brick_spec.specs.FlowStage.{FlowItem, Drop, FlowInput, FlowStage, through_row}
use Rattle.brick_spec.specs.Stage.{NoGroup}

-- What leaves: a list for each leaf group, in the order of the chain file, and what was dropped.
pub record Parts : Type 0 where
  pub lists : List (List FlowItem)
  pub dropped : List Drop

-- A group: which items it takes, and what it makes of those that it takes.
pub record Part : Type 0 where
  pub takes : FlowItem → Bool
  pub makes : FlowInput → Parts

-- of what came, the items that are taken; the flow ends as it did
abbrev pub only : (FlowItem → Bool) → FlowInput → FlowInput
only takes came = record { items = filter takes came.items; ended = came.ended }

abbrev pub others : (FlowItem → Bool) → FlowItem → Bool
others takes x = not (takes x)

abbrev pub beside : Parts → Parts → Parts
beside p q = record { lists = p.lists ++ q.lists; dropped = p.dropped ++ q.dropped }

abbrev pub no_group : FlowItem → Drop
no_group x = record { reason = NoGroup; item = x.item }

abbrev pub none_takes : FlowInput → Parts
none_takes came = record { lists = []; dropped = map no_group came.items }

-- Each item goes to the first group that takes it, and is dropped where none does.
abbrev pub shared : List Part → FlowInput → Parts
shared [] came = none_takes came
shared (p ∷ ps) came = beside (p.makes (only p.takes came)) (shared ps (only (others p.takes) came))

-- these were dropped before
abbrev pub with_dropped : List Drop → Parts → Parts
with_dropped ds p = record { lists = p.lists; dropped = ds ++ p.dropped }

-- what passed a row of stages comes to what stands behind it, and the flow ends there too
abbrev pub behind : List FlowStage → FlowInput → FlowInput
behind ss came = record { items = (through_row ss came).passed; ended = came.ended }

-- stages, and then what is made of what passes them
abbrev pub staged_by : List FlowStage → (FlowInput → Parts) → FlowInput → Parts
staged_by ss makes came = with_dropped (through_row ss came).dropped (makes (behind ss came))

-- one list, of all that comes, as it comes
abbrev pub whole : FlowInput → Parts
whole came = record { lists = came.items ∷ []; dropped = [] }

-- a leaf group: stages alone
abbrev pub leaf : List FlowStage → FlowInput → Parts
leaf ss = staged_by ss whole

-- stages, and groups behind them
abbrev pub staged : List FlowStage → List Part → FlowInput → Parts
staged ss ps = staged_by ss (shared ps)
