-- What a plan answers for the items of many flows: a list for each leaf group, and how many items were dropped for each
-- reason.
use Rattle.std.specs.Prelude.{ℕ, List, [], ◌∷◌, ◌++◌, map, filter, flat_map, count_by, Option, Some, Bool, nat_eq, min}
use Rattle.std.specs.Prelude.{if◌then◌else◌}
use Rattle.std.specs.List.{list_any, range_with_len, slice_index_or}
use Rattle.brick_spec.specs.Flow.{Flow, Class}
use Rattle.brick_spec.specs.FlowStage.{FlowItem, Drop, FlowInput}
use Rattle.brick_spec.specs.GroupOutput.{in_key_order, all_of}
use Rattle.brick_spec.specs.Item.{Item}
use Rattle.brick_spec.specs.Stage.{Reason, Big, Unparsed, Fire, NoRoute, Ttl, NatFull, Filter, NoGroup, Reach}
use Rattle.flow_spec.specs.Parts.{Parts}
use Rattle.flow_spec.specs.Plan.{Plan, leaf_count, flow_meaning}

-- FLOW BY FLOW

-- an item, and the class of its record
pub record ClassedItem : Type 0 where
  pub class : Class
  pub item : Item

abbrev pub is_of : Flow → ClassedItem → Bool
is_of flow x = nat_eq x.class.flow.number flow.number

-- the flows, and one more behind them where its number is not among theirs
abbrev pub with_flow : List Flow → Flow → List Flow
with_flow flows f = if list_any (λ g. nat_eq f.number g.number) flows then flows else flows ++ f ∷ []

abbrev pub flows_after : List Flow → List ClassedItem → List Flow
flows_after flows [] = flows
flows_after flows (x ∷ xs) = flows_after (with_flow flows x.class.flow) xs

-- the flows of the items, each once, in the order of first mention
abbrev pub flows_of : List ClassedItem → List Flow
flows_of list = flows_after [] list

abbrev pub flow_item : ClassedItem → FlowItem
flow_item x = record { dir = x.class.dir; item = x.item }

-- the items of a flow, in their order, and whether it has ended
abbrev pub came_of : Option ℕ → List ClassedItem → Flow → FlowInput
came_of ended list flow = record { items = map flow_item (filter (is_of flow) list); ended = ended }

-- what the plan makes of a flow
abbrev pub parts_of : Plan → Option ℕ → List ClassedItem → Flow → Parts
parts_of plan ended list flow = flow_meaning plan flow (came_of ended list flow)

-- LEAF GROUPS

-- the items that a flow gives a leaf group
abbrev pub given_to : ℕ → Parts → List Item
given_to g p = map (λ x. x.item) (slice_index_or p.lists g [])

-- a leaf group's items: what each flow gives it, in the order of keys
abbrev pub leaf_list : Plan → Option ℕ → List ClassedItem → ℕ → List Item
leaf_list plan ended list g = in_key_order (flat_map (λ f. given_to g (parts_of plan ended list f)) (flows_of list))

abbrev pub leaf_lists : Plan → Option ℕ → List ClassedItem → List (List Item)
leaf_lists plan ended list = map (leaf_list plan ended list) (range_with_len 0 (leaf_count plan))

-- DROPS

-- what was dropped, flow by flow
abbrev pub dropped_of : Plan → Option ℕ → List ClassedItem → List Drop
dropped_of plan ended list = flat_map (λ f. (parts_of plan ended list f).dropped) (flows_of list)

-- the place of a reason in a report
abbrev pub reason_place : Reason → ℕ
reason_place Big = 0
reason_place Unparsed = 1
reason_place Fire = 2
reason_place NoRoute = 3
reason_place Ttl = 4
reason_place NatFull = 5
reason_place Filter = 6
reason_place NoGroup = 7
reason_place Reach = 8

abbrev pub is_at : ℕ → Reason → Bool
is_at place r = nat_eq (reason_place r) place

-- how often each of the nine reasons stands in the list, by its place
abbrev pub counts_of : List Reason → List ℕ
counts_of rs = map (λ place. count_by (is_at place) rs) (range_with_len 0 9)

-- how many items were dropped for each reason; none is Big here
abbrev pub drop_counts : Plan → Option ℕ → List ClassedItem → List ℕ
drop_counts plan ended list = counts_of (map (λ d. d.reason) (dropped_of plan ended list))

-- THE ANSWER, when all flows have ended, in a capture of n records: the lists of the leaf groups, and nine counts, each
-- of 32 bits, which stand still at the last value

pub record Answer : Type 0 where
  pub groups : List (List Item)
  pub drops : List ℕ

abbrev pub answer : Plan → List ClassedItem → ℕ → Answer
answer plan list n = record {
  groups = leaf_lists plan (Some n) list;
  drops = map (min 4294967295) (drop_counts plan (Some n) list);
}

-- OUTPUTS

-- the lists of the leaf groups of output o, where each leaf group has the number of its output
abbrev pub lists_of : ℕ → List ℕ → List (List Item) → List (List Item)
lists_of o [] lists = []
lists_of o (k ∷ ks) [] = []
lists_of o (k ∷ ks) (list ∷ lists) = if nat_eq k o then list ∷ lists_of o ks lists else lists_of o ks lists

-- An output's items: those of all its leaf groups, in the order of keys. Of one key the earlier leaf group's stands
-- first.
abbrev pub output_list : List ℕ → List (List Item) → ℕ → List Item
output_list outputs lists o = in_key_order (all_of (lists_of o outputs lists))

-- the items of so many outputs
abbrev pub output_lists : ℕ → List ℕ → List (List Item) → List (List Item)
output_lists many outputs lists = map (output_list outputs lists) (range_with_len 0 many)
