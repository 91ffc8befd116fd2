-- The keys of what a chain leaves of a capture.
use Rattle.std.specs.Prelude.{◌≡◌, ℕ, ◌<◌, ◌≤◌, Bool, true, false, ◌&&◌, nat_eq, List, [], ◌∷◌, length, count_by, Some}
use Rattle.std.specs.List.{AllByRecursion}
use Rattle.brick_spec.specs.Capture.{Contents}
use Rattle.brick_spec.specs.GroupOutput.{comes_before, all_of}
use Rattle.brick_spec.specs.Item.{Item}
use Rattle.flow_spec.specs.Answer.{ClassedItem, leaf_lists}
use Rattle.chain_spec.specs.ChainSet.{Chain, windows_in}
use Rattle.tenant_spec.specs.ChainPlan.{plan_of}
use Rattle.tenant_spec.specs.Records.{accepted_items}
use Rattle.tenant_spec.specs.Tenant.{answer}
use Rattle.chain_laws.specs.Accepted.{IsAccepted, all_stages}

-- the list of each leaf group, where these records of a capture are refused
abbrev pub lists_left : Chain → List ℕ → Contents → List (List Item)
lists_left chain refused c = leaf_lists (plan_of chain) (Some (length c.entries)) (accepted_items chain refused c)

-- WITHIN A LEAF GROUP

-- each item comes before all those behind it, in the order of keys; so no two have the same key
abbrev pub RisesStrictly : List Item → Type 0
RisesStrictly [] = Unit {0}
RisesStrictly (x ∷ xs) = AllByRecursion (λ y. comes_before x y ≡ true) xs × RisesStrictly xs

-- The keys of each leaf group's list are distinct, and rise.
abbrev pub KeysAreDistinct : Type 0
KeysAreDistinct = (chain : Chain) → IsAccepted chain → (refused : List ℕ) (c : Contents) → AllByRecursion RisesStrictly (lists_left chain refused c)

-- items of records of a capture of n records, each of a record of its own
abbrev pub AreOfRecords : ℕ → List ClassedItem → Type 0
AreOfRecords n [] = Unit {0}
AreOfRecords n (c ∷ cs) = ((c.item.a < n) × (c.item.j ≡ 0) × AllByRecursion (λ (d : ClassedItem). nat_eq c.item.a d.item.a ≡ false) cs) × AreOfRecords n cs

-- The same of what a chain answers for any records of a capture of n, whatever their classes and their order.
abbrev pub AnswersAreDistinct : Type 0
AnswersAreDistinct = (chain : Chain) → IsAccepted chain → (n : ℕ) (list : List ClassedItem) → AreOfRecords n list
    → AllByRecursion RisesStrictly (answer chain list n).groups

-- OVER ALL LEAF GROUPS

abbrev pub has_key : ℕ → ℕ → Item → Bool
has_key a j i = nat_eq i.a a && nat_eq i.j j

-- how many items of all leaf groups have this key
abbrev pub times_left : Chain → List ℕ → Contents → ℕ → ℕ → ℕ
times_left chain refused c a j = count_by (has_key a j) (all_of (lists_left chain refused c))

-- A key of a record, or of a window that it triggered, stands at most once in all leaf groups together.
abbrev pub RecordsStandOnce : Type 0
RecordsStandOnce = (chain : Chain) → IsAccepted chain → (refused : List ℕ) (c : Contents) (a j : ℕ) → a < length c.entries → times_left chain refused c a j ≤ 1

-- Where at most one stage `window` stands in the whole chain, every key stands at most once in all leaf groups
-- together. With a window each in two groups, the rests of one flow may stand in both, under the same keys behind those
-- of all records.
abbrev pub KeysStandOnce : Type 0
KeysStandOnce = (chain : Chain) → IsAccepted chain → windows_in (all_stages chain) ≤ 1 → (refused : List ℕ) (c : Contents) (a j : ℕ) → times_left chain refused c a j ≤ 1
