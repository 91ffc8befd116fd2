-- What a work stands for over all flows.
use Rattle.std.specs.Prelude.{ℕ, ◌≡◌, ◌+◌, ◌<◌, ◌≤◌, List, [], ◌∷◌, ◌++◌, map, flat_map, length, get_or, slice_index}
use Rattle.std.specs.Prelude.{min, Option, Some, None, true, ◌||◌, nat_eq, if◌then◌else◌}
use Rattle.std.specs.List.{list_any, AllByRecursion, count_by}
use Rattle.brick_spec.specs.Flow.{Flow, Class}
use Rattle.brick_spec.specs.Item.{Item}
use Rattle.brick_spec.specs.FlowStage.{FlowItem, Drop, FlowInput}
use Rattle.flow_spec.specs.Parts.{Parts}
use Rattle.flow_spec.specs.Answer.{ClassedItem, given_to}
use Rattle.flow_work.specs.Meaning.{Meaning, came_items, AreOf, is_for}
use Rattle.flow_work.specs.Node.{parts_both, blanks}

-- what was made of items of a flow, or of its end, at one time
pub record Entry : Type 0 where
  pub number : ℕ
  pub parts : Parts

-- what was made for one flow
abbrev pub parts_at : ℕ → Parts → List Entry → Parts
parts_at f base [] = base
parts_at f base (e ∷ es) = parts_at f (if nat_eq e.number f then parts_both base e.parts else base) es

abbrev pub fresh : List (List Item) → Parts
fresh lists = record { lists = blanks lists; dropped = [] }

-- the items of one leaf group, one entry after another
abbrev pub group_of : ℕ → List Entry → List Item
group_of g log = flat_map (λ (e : Entry). given_to g e.parts) log

abbrev pub all_dropped : List Entry → List Drop
all_dropped log = flat_map (λ (e : Entry). e.parts.dropped) log

-- the numbers of the flows of a list
abbrev pub flows_in : List ClassedItem → List ℕ
flows_in list = map (λ (c : ClassedItem). c.class.flow.number) list

-- how many records the capture has, for a flow that ended
abbrev pub ended_at : ℕ → List ℕ → ℕ → Option ℕ
ended_at n ended f = if list_any (nat_eq f) ended then Some n else None

-- nine counts, each up to 4,294,967,295
abbrev pub AreCounts : List ℕ → List Drop → Type 0
AreCounts counts drops = (k : ℕ) → k < 9 → slice_index counts k ≡ min 4294967295 (count_by (is_for k) drops)

-- so many more of each reason were counted
abbrev pub CountsMore : List ℕ → List ℕ → List Drop → Type 0
CountsMore old new drops = (k : ℕ) → k < 9 → slice_index old k ≤ 4294967295
    → slice_index new k ≡ min 4294967295 (slice_index old k + count_by (is_for k) drops)

-- The work stands for this list of items with their classes, and for the end of these flows: what it keeps of each
-- flow, and what it made of it, fit what came of that flow. The entries say in which turn the flows wrote.
pub record EndedFor {W : Type 0} (stands : W → Flow → FlowInput → Parts → Type 0) (results : W
    → List (List Item)) (counts : W
    → List ℕ) (n : ℕ) (ended : List ℕ) (w : W) (list : List ClassedItem) (log : List Entry) : Type 0 where
  pub flows : (f : Flow) → AreOf f list
      → stands w f (record {
        items = came_items f list;
        ended = ended_at n ended f.number;
      }) (parts_at f.number (fresh (results w)) log)
  pub kept : (g : ℕ) → g < length (results w) → get_or (results w) g [] ≡ group_of g log
  pub drops : AreCounts (counts w) (all_dropped log)
  pub known : AllByRecursion
      (λ (e : Entry). (list_any (nat_eq e.number) (flows_in list) || list_any (nat_eq e.number) ended) ≡ true) log

-- OF ONE CAPTURE

-- a flow's items keep keys of that flow, where a key's first part tells the flow: of a record by its number, of what an
-- end adds by the flow's number beyond the records
abbrev pub OwnsKeys : Meaning → Type 0
OwnsKeys meaning = (owner : ℕ → ℕ) (f : Flow) (n : ℕ) (items : List FlowItem) → owner (n + f.number) ≡ f.number
    → AllByRecursion (λ (x : FlowItem). owner x.item.a ≡ f.number) items
    → (g : ℕ) → AllByRecursion (λ (i : Item). owner i.a
    ≡ f.number) (given_to g (meaning f (record { items = items; ended = Some n })))

-- Items of records of a capture of n records, of which record k has this class. A flow's number stands for one flow.
pub record AreRecords (class_at : ℕ → Class) (n : ℕ) (list : List ClassedItem) : Type 0 where
  pub each : AllByRecursion (λ (c : ClassedItem). (c.item.a < n) × (c.class ≡ class_at c.item.a)) list
  pub alike : (k l : ℕ) → k < n → l < n → (class_at k).flow.number ≡ (class_at l).flow.number
      → (class_at k).flow ≡ (class_at l).flow
