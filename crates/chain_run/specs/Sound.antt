-- What is true of the stages of a chain beside a store of spare buffers.
use Rattle.std.specs.Prelude.{ℕ, ◌≡◌, ◌+◌, ◌/◌, ◌≤◌, List, length, Option, is_some, IsTrue}
use Rattle.std.specs.List.{AllByRecursion}
use Rattle.brick_spec.specs.FlowClass.{NatPlan}
use Rattle.chain_spec.specs.ChainSet.{Stage, Window, Leaf, Below, Output, Inner, Group, Chain, Nat, windows_in}

-- A packet makes no more windows than there are spare buffers, and each has room. Addresses are translated by a plan.
abbrev pub IsServed : Option NatPlan → ℕ → ℕ → Stage → Type 0
IsServed nat count bytes (Window size reach) = (reach / size + 1 ≤ count) × (54 + size ≤ bytes)
IsServed nat count bytes Nat = IsTrue (is_some nat)
IsServed nat count bytes _ = Unit {0}

-- stages that stand behind so many windows: at most one window stands on the way
pub record AreSound (nat : Option NatPlan) (count bytes before : ℕ) (stages : List Stage) : Type 0 where
  pub served : AllByRecursion (IsServed nat count bytes) stages
  pub one : before + windows_in stages ≤ 1

abbrev pub IsLeafSound : Option NatPlan → ℕ → ℕ → ℕ → Leaf → Type 0
IsLeafSound nat count bytes before l = AreSound nat count bytes before l.stages

abbrev pub AreLeavesSound : Option NatPlan → ℕ → ℕ → ℕ → List Leaf → Type 0
AreLeavesSound nat count bytes before leaves =
    (1 ≤ length leaves) × (length leaves ≤ 4) × AllByRecursion (IsLeafSound nat count bytes before) leaves

abbrev pub IsBelowSound : Option NatPlan → ℕ → ℕ → ℕ → Below → Type 0
IsBelowSound nat count bytes before (Output o) = Unit {0}
IsBelowSound nat count bytes before (Inner leaves) = AreLeavesSound nat count bytes before leaves

abbrev pub IsGroupSound : Option NatPlan → ℕ → ℕ → ℕ → Group → Type 0
IsGroupSound nat count bytes before g =
    AreSound nat count bytes before g.stages × IsBelowSound nat count bytes (before + windows_in g.stages) g.below

abbrev pub IsChainSound : ℕ → ℕ → Chain → Type 0
IsChainSound count bytes chain = AreSound chain.nat count bytes 0 chain.stages
    × AllByRecursion (IsGroupSound chain.nat count bytes (windows_in chain.stages)) chain.groups

-- no window stands there
abbrev pub IsBareLeaf : Leaf → Type 0
IsBareLeaf l = windows_in l.stages ≡ 0

abbrev pub IsBareBelow : Below → Type 0
IsBareBelow (Output o) = Unit {0}
IsBareBelow (Inner leaves) = AllByRecursion IsBareLeaf leaves

abbrev pub IsBareGroup : Group → Type 0
IsBareGroup g = (windows_in g.stages ≡ 0) × IsBareBelow g.below

-- WHAT THE WINDOWS OF A CHAIN NEED: a packet makes no more windows than there are spare buffers, and each has room.

abbrev pub WindowFits : ℕ → ℕ → Stage → Type 0
WindowFits count bytes (Window size reach) = (reach / size + 1 ≤ count) × (54 + size ≤ bytes)
WindowFits count bytes _ = Unit {0}

abbrev pub WindowsFit : ℕ → ℕ → List Stage → Type 0
WindowsFit count bytes stages = AllByRecursion (WindowFits count bytes) stages

abbrev pub LeafFits : ℕ → ℕ → Leaf → Type 0
LeafFits count bytes l = WindowsFit count bytes l.stages

abbrev pub BelowFits : ℕ → ℕ → Below → Type 0
BelowFits count bytes (Output o) = Unit {0}
BelowFits count bytes (Inner leaves) = AllByRecursion (LeafFits count bytes) leaves

abbrev pub GroupFits : ℕ → ℕ → Group → Type 0
GroupFits count bytes g = WindowsFit count bytes g.stages × BelowFits count bytes g.below

-- No window of a chain needs more: data ends at most 1,048,576 bytes behind the first gap, and a window has 64 to
-- 1,460.
abbrev pub IsFew : ℕ → ℕ → Type 0
IsFew count bytes = (count ≤ 16385) × (bytes ≤ 1514)

-- as many buffers as before and more, and as many bytes
abbrev pub IsMore : ℕ → ℕ → ℕ → ℕ → Type 0
IsMore old_count old_bytes count bytes = (old_count ≤ count) × (old_bytes ≤ bytes) × IsFew count bytes
