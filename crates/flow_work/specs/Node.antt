-- A place of a chain to which packets come: what it stands for, and what calls of it do.
use Rattle.std.specs.Prelude.{ℕ, ◌≡◌, ◌≢◌, List, [], ◌∷◌, ◌++◌, map, flat_map, length, Option, Some, None, Bool}
use Rattle.std.specs.List.Sorted.{IsPermutation}
use Rattle.brick_spec.specs.Flow.{Flow}
use Rattle.brick_spec.specs.Item.{Item}
use Rattle.brick_spec.specs.Match.{Match}
use Rattle.brick_spec.specs.FlowStage.{FlowItem, FlowStage, FlowInput, FlowOutput}
use Rattle.batch_ops.specs.Operator.{with_more}
use Rattle.flow_spec.specs.Parts.{Parts, Part, only, others, beside, with_dropped, staged_by, whole, shared, no_group}
use Rattle.flow_spec.specs.Plan.{takes_by}
use Rattle.flow_work.specs.Meaning.{Meaning, item_of}

-- LISTS OF LISTS

-- list by list
abbrev pub joined : {X : Type 0} → List (List X) → List (List X) → List (List X)
joined [] yss = []
joined (xs ∷ xss) [] = xs ∷ xss
joined (xs ∷ xss) (ys ∷ yss) = (xs ++ ys) ∷ joined xss yss

-- as many lists, all empty
abbrev pub blanks : {X Y : Type 0} → List X → List (List Y)
blanks xss = map (λ _. []) xss

abbrev pub parts_both : Parts → Parts → Parts
parts_both p q = record { lists = joined p.lists q.lists; dropped = p.dropped ++ q.dropped }

abbrev pub items_in : List (List FlowItem) → List (List Item)
items_in xss = map (map item_of) xss

-- the same lists, and the same drops in some order
abbrev pub IsMade : Parts → Parts → Type 0
IsMade p q = (p.lists ≡ q.lists) × IsPermutation p.dropped q.dropped

-- WHAT CALLS DO

-- what stood, at a flow that has not ended, for what came and what that made, stands for it with these items more, or
-- its end, and with this made more
abbrev pub GoesParts : {N : Type 0} → (N → Flow → FlowInput → Parts → Type 0) → N → N → Flow → List FlowItem → Option ℕ
    → Parts → Type 0
GoesParts stands old new flow items ended added =
    (came : FlowInput) (parts : Parts) → came.ended ≡ None → stands old flow came parts
    → stands new flow (with_more came items ended) (parts_both parts added)

-- nothing changed at another flow
abbrev pub OthersStayParts : {N : Type 0} → (N → Flow → FlowInput → Parts → Type 0) → N → N → Flow → Type 0
OthersStayParts stands old new flow =
    (other : Flow) (came : FlowInput) (parts : Parts) → other.number ≢ flow.number → stands old other came parts
    → stands new other came parts

-- what handling items of a flow, or its end, did
pub record Went {N : Type 0} (stands : N → Flow → FlowInput → Parts → Type 0) (makes : N → Meaning) (results : N
    → List (List Item)) (old new : N) (flow : Flow) (items : List FlowItem) (ended : Option ℕ)
    (added : Parts) : Type 0 where
  pub goes : GoesParts stands old new flow items ended added
  pub others : OthersStayParts stands old new flow
  -- the lists of its leaf groups grew by what was made
  pub kept : results new ≡ joined (results old) (items_in added.lists)
  pub long : length added.lists ≡ length (results old)
  -- what no call changes
  pub same : makes new ≡ makes old

-- what holds of each place
pub record IsNode {N : Type 0} (stands : N → Flow → FlowInput → Parts → Type 0) (makes : N → Meaning) (results : N
    → List (List Item)) : Type 0 where
  pub means : (n : N) (flow : Flow) (came : FlowInput) (parts : Parts) → stands n flow came parts
      → IsMade parts (makes n flow came)
  pub many : (n : N) (flow : Flow) (came : FlowInput) (parts : Parts) → stands n flow came parts
      → length parts.lists ≡ length (results n)

-- A LIST OF ITEMS: all that comes

abbrev pub ListStands : FlowInput → Parts → Type 0
ListStands came parts = (parts.lists ≡ came.items ∷ []) × (parts.dropped ≡ [])

-- A ROW OF STAGES, AND A PLACE BEHIND IT

-- a middle list joins the two
abbrev pub PipeStands : {P N : Type 0} → (P → Flow → FlowInput → FlowOutput → Type 0)
    → (N → Flow → FlowInput → Parts → Type 0) → P → N → Flow → FlowInput → Parts → Type 0
PipeStands row_stands stands p n flow came parts =
    (mid : FlowOutput) × (rest : Parts) × row_stands p flow came mid
    × stands n flow (record { items = mid.passed; ended = came.ended }) rest
    × (parts.lists ≡ rest.lists) × IsPermutation parts.dropped (mid.dropped ++ rest.dropped)

abbrev pub pipe_makes : {P N : Type 0} → (P → Flow → List FlowStage) → (N → Meaning) → P → N → Meaning
pipe_makes row makes p n flow came = staged_by (row p flow) (makes n flow) came

-- GROUPS: places with a match each

abbrev pub FanStands : {N : Type 0} → (N → Flow → FlowInput → Parts → Type 0) → List (Option Match) → List N → Flow
    → FlowInput → Parts → Type 0
FanStands stands [] ns flow came parts = (parts.lists ≡ []) × (parts.dropped ≡ map no_group came.items)
FanStands stands (m ∷ ms) [] flow came parts = (parts.lists ≡ []) × (parts.dropped ≡ map no_group came.items)
FanStands stands (m ∷ ms) (n ∷ ns) flow came parts =
    (mine : Parts) × (rest : Parts) × stands n flow (only (takes_by m) came) mine
    × FanStands stands ms ns flow (only (others (takes_by m)) came) rest
    × (parts.lists ≡ mine.lists ++ rest.lists) × IsPermutation parts.dropped (mine.dropped ++ rest.dropped)

abbrev pub fan_parts : {N : Type 0} → (N → Meaning) → Flow → List (Option Match) → List N → List Part
fan_parts makes flow [] ns = []
fan_parts makes flow (m ∷ ms) [] = []
fan_parts makes flow (m ∷ ms) (n ∷ ns) = record { takes = takes_by m; makes = makes n flow }
    ∷ fan_parts makes flow ms ns

abbrev pub fan_makes : {N : Type 0} → (N → Meaning) → List (Option Match) → List N → Meaning
fan_makes makes ms ns flow came = shared (fan_parts makes flow ms ns) came

abbrev pub fan_results : {N : Type 0} → (N → List (List Item)) → List N → List (List Item)
fan_results results ns = flat_map results ns
