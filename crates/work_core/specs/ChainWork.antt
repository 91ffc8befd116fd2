-- What handles the packets of a tenant at one worker.
use Rattle.std.specs.Prelude.{ℕ, ◌≡◌, ◌≢◌, ◌≤◌, List, [], ◌∷◌, ◌++◌, map, length, nat_eq, Option, Some, Bool, true}
use Rattle.std.specs.Prelude.{false}
use Rattle.std.specs.List.{AllByRecursion, list_any, slice_index_or}
use Rattle.std.specs.List.Sorted.{IsPermutation}
use Rattle.brick_spec.specs.Flow.{Class}
use Rattle.brick_spec.specs.Item.{Item}
use Rattle.brick_spec.specs.GroupOutput.{comes_before}
use Rattle.packet_owner.specs.Buffer.{BufferModel}
use Rattle.batch_ops.specs.declared.batch.Work.{Work}
use Rattle.flow_spec.specs.Answer.{ClassedItem, Answer, flows_of}
use Rattle.flow_spec.specs.Plan.{Plan, leaf_count, flow_meaning}
use Rattle.flow_work.specs.Buffers.{work_buffer}
use Rattle.flow_work.specs.Log.{OwnsKeys, AreRecords}
use Rattle.flow_work.specs.Meaning.{numbers_of}
use Rattle.work_core.specs.Classed.{classed}
use Rattle.work_core.specs.Result.{result_view}
use Rattle.work_core.specs.declared.result.WorkResult.{WorkResult}

-- what a turn did
pub record TookTurn {W : Type 0} (follows : W → Plan → Type 0) (ready : W → Type 0) (stands : W → List ClassedItem
    → Type 0) (ended : W → Option ℕ) (broken : W
    → Bool) (old new : W) (batch : List Work) (back : List BufferModel) : Type 0 where
  -- the buffers of the batch come back, each once, with the rooms that they had
  pub buffers : IsPermutation (map work_buffer batch) back
  -- what no call changes
  pub same : (p : Plan) → follows old p → follows new p
  pub stays_ready : ready new
  pub still : ended new ≡ ended old
  pub stays_broken : broken old ≡ true → broken new ≡ true
  -- it stands for the packets too, whatever it stood for, or has failed
  pub goes : broken new ≡ false → (list : List ClassedItem) → stands old list → stands new (list ++ map classed batch)

-- what the end did
pub record TookEnd {W : Type 0} (follows : W → Plan → Type 0) (stands : W → List ClassedItem → Type 0) (finished : W
    → ℕ → List ClassedItem → Type 0) (ended : W → Option ℕ) (broken : W
    → Bool) (old new : W) (records : ℕ) : Type 0 where
  -- what no call changes
  pub same : (p : Plan) → follows old p → follows new p
  pub over : ended new ≡ Some records
  pub stays_broken : broken old ≡ true → broken new ≡ true
  pub goes : broken new ≡ false → (list : List ClassedItem) → stands old list → finished new records list

-- The results are what the plan that it follows answers for each list of one capture's records that it stands for, in a
-- capture of n records.
abbrev pub GivesAnswer : {W : Type 0} → (W → Plan → Type 0) → (Plan → List ClassedItem → ℕ → Answer)
    → (W → ℕ → List ClassedItem → Type 0) → W → WorkResult → Type 0
GivesAnswer follows answer finished w r =
    (p : Plan) (class_at : ℕ → Class) (n : ℕ) (list : List ClassedItem) → follows w p → OwnsKeys (flow_meaning p)
    → AreRecords class_at n list → finished w n list → result_view r ≡ answer p list n

-- none stands before one that it should stand behind
abbrev pub Rises : List Item → Type 0
Rises [] = Unit {0}
Rises (x ∷ xs) = AllByRecursion (λ y. comes_before y x ≡ false) xs × Rises xs

-- THE LAWS OF AN ANSWER

abbrev pub HasLists : (Plan → List ClassedItem → ℕ → Answer) → Type 0
HasLists answer = (p : Plan) (list : List ClassedItem) (n : ℕ) → length (answer p list n).groups ≡ leaf_count p

abbrev pub HasRisingLists : (Plan → List ClassedItem → ℕ → Answer) → Type 0
HasRisingLists answer = (p : Plan) (list : List ClassedItem) (n : ℕ) → AllByRecursion Rises (answer p list n).groups

-- they have no flow in common
abbrev pub HaveNoFlow : List ClassedItem → List ClassedItem → Type 0
HaveNoFlow xs ys = (k : ℕ) → list_any (nat_eq k) (numbers_of (flows_of xs)) ≡ true
    → list_any (nat_eq k) (numbers_of (flows_of ys)) ≡ true → ⊥

-- lists of one capture without a common flow have no common key in a leaf group
abbrev pub HasOwnKeys : (Plan → List ClassedItem → ℕ → Answer) → Type 0
HasOwnKeys answer = (p : Plan) (class_at : ℕ → Class) (n : ℕ) (xs ys : List ClassedItem) → OwnsKeys (flow_meaning p)
    → AreRecords class_at n xs → AreRecords class_at n ys → HaveNoFlow xs ys
    → (g : ℕ) → AllByRecursion (λ (x : Item). AllByRecursion (λ (y : Item). x.a
    ≢ y.a) (slice_index_or (answer p ys n).groups g [])) (slice_index_or (answer p xs n).groups g [])

abbrev pub HasCappedCounts : (Plan → List ClassedItem → ℕ → Answer) → Type 0
HasCappedCounts answer = (p : Plan) (list : List ClassedItem) (n : ℕ)
    → (length (answer p list n).drops ≡ 9) × AllByRecursion (λ k. k ≤ 4294967295) (answer p list n).drops
