-- Ways through a chain, and the windows on them.
use Rattle.std.proofs.Common.{◌≡◌, ℕ, zero, suc, ◌+◌, ◌<◌, ◌≤◌, List, [], ◌∷◌, Option, ◌⊎◌, inl, inr, refl, arith}
use Rattle.std.specs.List.{AllByRecursion}
use Rattle.brick_spec.specs.FlowClass.{NatPlan}
use Rattle.brick_spec.specs.FlowStage.{FlowStage}
use Rattle.batch_ops.specs.Operator.{Meaning}
use Rattle.batch_ops.specs.declared.outlet.Passed.{Passed}
use Rattle.chain_spec.specs.ChainSet.{Stage, Leaf, Below, Output, Inner, Group, windows_in}
use Rattle.chain_nodes.specs.Node.{PipeServes}
use Rattle.chain_run.specs.Sound.{AreSound, IsLeafSound, IsBelowSound, IsGroupSound, IsBareLeaf, IsBareBelow, IsBareGroup}
use Rattle.chain_run.specs.Built.{IsPath}

-- FEWER WINDOWS BEFORE

sound_less : (nat : Option NatPlan) (count bytes before : ℕ) (stages : List Stage) → AreSound nat count bytes before stages → AreSound nat count bytes 0 stages
sound_less nat count bytes before stages s = record { served = s.served; one = let e = s.one in omega (arith, e) }

leaves_less : (nat : Option NatPlan) (count bytes before : ℕ) (ls : List Leaf) → AllByRecursion (IsLeafSound nat count bytes before) ls → AllByRecursion (IsLeafSound nat count bytes 0) ls
leaves_less nat count bytes before [] h = tt
leaves_less nat count bytes before (l ∷ ls) (h, hs) = (sound_less nat count bytes before l.stages h, leaves_less nat count bytes before ls hs)

pub below_less : (nat : Option NatPlan) (count bytes before : ℕ) (b : Below) → IsBelowSound nat count bytes before b → IsBelowSound nat count bytes 0 b
below_less nat count bytes before (Output o) h = tt
below_less nat count bytes before (Inner leaves) (some, few, h) = (some, few, leaves_less nat count bytes before leaves h)

below_zero : (nat : Option NatPlan) (count bytes before : ℕ) (b : Below) → IsBelowSound nat count bytes (before + 0) b → IsBelowSound nat count bytes 0 b
below_zero nat count bytes before b h = below_less nat count bytes (before + 0) b h

leaves_between : (nat : Option NatPlan) (count bytes before w : ℕ) (ls : List Leaf) → AllByRecursion (IsLeafSound nat count bytes (before + w)) ls → AllByRecursion (IsLeafSound nat count bytes (0 + w)) ls
leaves_between nat count bytes before w [] h = tt
leaves_between nat count bytes before w (l ∷ ls) (h, hs) = (record { served = h.served; one = let e = h.one in omega (arith, e) }, leaves_between nat count bytes before w ls hs)

below_between : (nat : Option NatPlan) (count bytes before w : ℕ) (b : Below) → IsBelowSound nat count bytes (before + w) b → IsBelowSound nat count bytes (0 + w) b
below_between nat count bytes before w (Output o) h = tt
below_between nat count bytes before w (Inner leaves) (some, few, h) = (some, few, leaves_between nat count bytes before w leaves h)

group_less : (nat : Option NatPlan) (count bytes before : ℕ) (g : Group) → IsGroupSound nat count bytes before g → IsGroupSound nat count bytes 0 g
group_less nat count bytes before g (s, b) = (sound_less nat count bytes before g.stages s, below_between nat count bytes before (windows_in g.stages) g.below b)

pub groups_less : (nat : Option NatPlan) (count bytes before : ℕ) (gs : List Group) → AllByRecursion (IsGroupSound nat count bytes before) gs → AllByRecursion (IsGroupSound nat count bytes 0) gs
groups_less nat count bytes before [] h = tt
groups_less nat count bytes before (g ∷ gs) (h, hs) = (group_less nat count bytes before g h, groups_less nat count bytes before gs hs)

-- BEHIND A WINDOW THERE IS NONE

none_more : (w k : ℕ) → (w ≡ 0 → ⊥) → w + k ≤ 1 → k ≡ 0
none_more zero k nz l = absurd (nz refl)
none_more (suc w) k nz l = omega (arith, l)

leaves_bare : (nat : Option NatPlan) (count bytes before : ℕ) (ls : List Leaf) → (before ≡ 0 → ⊥) → AllByRecursion (IsLeafSound nat count bytes before) ls → AllByRecursion IsBareLeaf ls
leaves_bare nat count bytes before [] nz h = tt
leaves_bare nat count bytes before (l ∷ ls) nz (h, hs) = (none_more before (windows_in l.stages) nz h.one, leaves_bare nat count bytes before ls nz hs)

pub below_bare : (nat : Option NatPlan) (count bytes before : ℕ) (b : Below) → (before ≡ 0 → ⊥) → IsBelowSound nat count bytes before b → IsBareBelow b
below_bare nat count bytes before (Output o) nz h = tt
below_bare nat count bytes before (Inner leaves) nz (some, few, h) = leaves_bare nat count bytes before leaves nz h

more_no : (before w : ℕ) → (before ≡ 0 → ⊥) → before + w ≡ 0 → ⊥
more_no zero w nz e = nz refl
more_no (suc b) w nz e = absurd (omega (arith, e))

pub groups_bare : (nat : Option NatPlan) (count bytes before : ℕ) (gs : List Group) → (before ≡ 0 → ⊥) → AllByRecursion (IsGroupSound nat count bytes before) gs → AllByRecursion IsBareGroup gs
groups_bare nat count bytes before [] nz h = tt
groups_bare nat count bytes before (g ∷ gs) nz ((s, b), hs) =
    ((none_more before (windows_in g.stages) nz s.one, below_bare nat count bytes (before + windows_in g.stages) g.below (more_no before (windows_in g.stages) nz) b), groups_bare nat count bytes before gs nz hs)

pub none_or : (w : ℕ) → (w ≡ 0) ⊎ (w ≡ 0 → ⊥)
none_or zero = inl refl
none_or (suc w) = inr (λ e. absurd (omega (arith, e)))

-- A PATH AND WHAT STANDS BEHIND IT

module _ {P N : Type 0} (m : Meaning P) (nat : Option NatPlan) (count bytes : ℕ) (serves : N → ℕ → ℕ → ℕ → Type 0) (before : List FlowStage) (stages : List Stage) (p : P) (n : N) (waiting : List Passed) (room : ℕ) (path : IsPath m nat count bytes before stages p)
    (none : waiting ≡ []) (long : count < room) where
  -- with all spare buffers at hand
  pub way_serves : (m.spares p ≡ 0) ⊎ serves n count bytes 0 → serves n count bytes count → PipeServes m.ready m.spares m.least_room serves p n waiting room count bytes count
  way_serves one behind = record { ready_row = path.ready; within = path.few; enough = path.few; long = path.room; behind = behind; one_is_plain = one; none_waits = none; has_room = long }

  -- with none, where there is no window
  pub way_bare : windows_in stages ≡ 0 → serves n count bytes 0 → PipeServes m.ready m.spares m.least_room serves p n waiting room count bytes 0
  way_bare e behind =
      let s : m.spares p ≡ 0 = path.bare e in
      record { ready_row = path.ready; within = path.few; enough = omega (arith, s); long = path.room; behind = behind; one_is_plain = inl s; none_waits = none; has_room = long }
