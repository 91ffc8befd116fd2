-- The rule of a lane's pool on a queue: slot by slot, what was put is what was taken and what the queue holds.
use Rattle.std.specs.Prelude.{◌≡◌, ℕ, zero, suc, ◌+◌, ◌-◌, ◌<◌, ◌≤◌, Bool, true, false, List, [], ◌∷◌, ◌++◌, map}
use Rattle.std.specs.Prelude.{Option, Some, None}
use mathlib.Core.Option.{some}
use lib.ListN.{get_elem?}
use Rattle.packet_owner.specs.Buffer.{BufferModel as Buffer}
use Rattle.lane_spec.specs.Counts.{total, times, one_if}
use Rattle.lane_queue.specs.declared.pool_rule.PoolView.{PoolView}

-- VIEWS

abbrev pub pool_view : ℕ → Bool → List ℕ → List ℕ → Option (ℕ × ℕ) → PoolView
pool_view parts takes put taken size = record { parts = parts; takes = takes; put = put; taken = taken; size = size }

abbrev pub first_view : PoolView
first_view = pool_view 1024 true [] [] None

-- the view that a join leaves
abbrev pub spent : PoolView
spent = pool_view 0 false [] [] None

-- the two views of a split, and the one of a join
abbrev pub kept_parts : PoolView → PoolView
kept_parts v = pool_view (v.parts - 1) v.takes v.put v.taken v.size

abbrev pub given_part : PoolView → PoolView
given_part v = pool_view 1 false [] [] v.size

abbrev pub both_parts : PoolView → PoolView → PoolView
both_parts v w = pool_view (v.parts + w.parts) v.takes (v.put ++ w.put) (v.taken ++ w.taken) v.size

abbrev pub numbers_from : ℕ → ℕ → List ℕ
numbers_from a zero = []
numbers_from a (suc n) = a ∷ numbers_from (a + 1) n

-- the pool's size once the buffers of the slots below n were put
abbrev pub size_of : ℕ → ℕ → Option (ℕ × ℕ)
size_of bytes zero = None
size_of bytes (suc n) = Some (bytes, suc n)

-- the view of so many parts once the buffers of the slots below n were put
abbrev pub filled_view : ℕ → ℕ → ℕ → PoolView
filled_view parts bytes n = pool_view parts true (numbers_from 0 n) [] (size_of bytes n)

-- THE RULE

abbrev pub slots_in : List Buffer → List ℕ
slots_in bs = map (λ (b : Buffer). b.slot) bs

abbrev pub in_put : ℕ → PoolView → ℕ
in_put i v = times i v.put

abbrev pub in_taken : ℕ → PoolView → ℕ
in_taken i v = times i v.taken

abbrev pub parts_of : PoolView → ℕ
parts_of v = v.parts

abbrev pub may_take : PoolView → ℕ
may_take v = one_if v.takes

-- the buffer has the pool's room, and a slot of the pool
abbrev pub FitsPool : Option (ℕ × ℕ) → Buffer → Type 0
FitsPool None b = ⊥
FitsPool (Some a) b = (b.room ≡ a.0) × (b.slot < a.1)

-- a pass with no part did nothing; one that may not take took nothing; and each that has a part knows the size
pub record Stands (size : Option (ℕ × ℕ)) (v : PoolView) : Type 0 where
  pub idle : v.parts ≡ 0 → (v.put ≡ []) × (v.taken ≡ [])
  pub takes : v.takes ≡ false → v.taken ≡ []
  pub knows : 0 < v.parts → v.size ≡ size

pub record Pool (items : List Buffer) (views : List PoolView) : Type 0 where
  pub size : Option (ℕ × ℕ)
  -- each buffer has the lane's room
  pub fits : (k : ℕ) (b : Buffer) → get_elem? items k ≡ some b → FitsPool size b
  -- what came, less what was given out
  pub counts : (i : ℕ) → total (in_taken i) views + times i (slots_in items) ≡ total (in_put i) views
  pub parts : total parts_of views ≡ 1024
  -- one pass at most takes
  pub one_takes : total may_take views ≤ 1
  pub stands : (id : ℕ) (v : PoolView) → get_elem? views id ≡ some v → Stands size v

-- STEPS

-- a buffer that may be put while there is one pass: it has the pool's room, and its slot is not below those of the pool
abbrev pub MayFill : Option (ℕ × ℕ) → Buffer → Type 0
MayFill None b = Unit {0}
MayFill (Some a) b = (b.room ≡ a.0) × (a.1 ≤ b.slot + 1)

abbrev pub Fills : PoolView → Buffer → PoolView → Type 0
Fills v b w = w ≡ pool_view v.parts v.takes (v.put ++ b.slot ∷ []) v.taken (Some (b.room, b.slot + 1))

abbrev pub Puts : PoolView → Buffer → PoolView → Type 0
Puts v b w = w ≡ pool_view v.parts v.takes (v.put ++ b.slot ∷ []) v.taken v.size

pub record Takes (v : PoolView) (b : Buffer) (w : PoolView) : Type 0 where
  pub view : w ≡ pool_view v.parts v.takes v.put (v.taken ++ b.slot ∷ []) v.size
  pub fits : FitsPool v.size b

-- LESSONS

-- what the pass that takes learns of the queue: all that it put is taken or still there
abbrev pub Rest : PoolView → List Buffer → Type 0
Rest v items = (i : ℕ) → times i v.put ≤ times i v.taken + times i (slots_in items)

-- what a pass with all parts learns
abbrev pub Whole : PoolView → List Buffer → Type 0
Whole v items = (i : ℕ) → times i v.taken + times i (slots_in items) ≡ times i v.put
