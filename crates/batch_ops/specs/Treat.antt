-- Stages that make at most one packet of a packet, and nothing of the end of a flow.
use Rattle.std.specs.Prelude.{ℕ, ◌≡◌, ◌≢◌, List, [], ◌∷◌, ◌++◌, map, None, Bool, true, false, Result, Ok, Err}
use Rattle.std.specs.List.Sorted.{IsPermutation}
use Rattle.brick_spec.specs.Flow.{Flow}
use Rattle.brick_spec.specs.FlowStage.{FlowItem, FlowStage, FlowInput, FlowOutput}
use Rattle.brick_base.specs.Flow.{flow_of}
use Rattle.brick_base.specs.declared.flow.Class.{Class}
use Rattle.brick_base.specs.declared.flow.Dir.{Dir}
use Rattle.packet_owner.specs.Packet.{PacketModel}
use Rattle.batch_ops.specs.declared.outlet.Dropped.{Dropped}
use Rattle.batch_ops.specs.Outlet.{Added, is_lost, left_in, keyed}
use Rattle.batch_ops.specs.Operator.{Meaning, Extends, OthersStay, may_fail, work_item}
use Rattle.batch_ops.specs.Stage.{StageStands, RowStands}

-- ONE STAGE

-- what is known of the stages of a type
pub record Kind (S : Type 0) : Type 1 where
  -- the stage that a value is, at a flow
  pub stage : S → Flow → FlowStage
  -- what it keeps of a flow fits the items that came of it
  pub fits : S → Flow → List FlowItem → Type 0
  -- memory ran out
  pub failed : S → Bool

-- stages that keep nothing
abbrev pub keeps_nothing : {S : Type 0} → (S → Flow → FlowStage) → Kind S
keeps_nothing stage = record { stage = stage; fits = λ _ _ _. Unit {0}; failed = λ _. false }

-- what became of a packet: it goes on, or is dropped
abbrev pub Treated : Type 0
Treated = Result PacketModel Dropped

abbrev pub treated_packet : Treated → PacketModel
treated_packet (Ok q) = q
treated_packet (Err d) = d.packet

abbrev pub was_lost : Treated → Bool
was_lost (Ok q) = false
was_lost (Err d) = is_lost d

abbrev pub added_by : Dir → Treated → Added
added_by dir (Ok q) = record { passed = record { dir = dir; packet = q } ∷ []; dropped = []; consumed = [] }
added_by dir (Err d) = record { passed = []; dropped = d ∷ []; consumed = [] }

-- what a stage did with a packet
pub record Treats {S : Type 0} (k : Kind S) (old new : S) (class : Class) (p : PacketModel) (r : Treated) : Type 0 where
  -- the packet keeps its key and its buffer
  pub kept : keyed (treated_packet r) ≡ keyed p
  -- what left is what the stage is told of the packet, and what is kept fits it too
  pub on_item : was_lost r ≡ false → (before : List FlowItem) → k.fits old (flow_of class) before
      → left_in (added_by class.dir r) ≡ (k.stage old (flow_of class)).on_item before (work_item class p)
  pub fits : was_lost r ≡ false → (before : List FlowItem) → k.fits old (flow_of class) before
      → k.fits new (flow_of class) (before ++ work_item class p ∷ [])
  -- nothing changes at other flows
  pub others : (other : Flow) (before : List FlowItem) → other.number ≢ class.flow → k.fits old other before
      → k.fits new other before
  pub same : k.stage new ≡ k.stage old
  -- memory ran out where the packet was lost, and each one is lost from then on
  pub lost : k.failed new ≡ was_lost r
  pub stays_failed : k.failed old ≡ true → r ≡ Err (record { reason = None; packet = p })

-- nothing is made of the end of a flow
abbrev pub NoRest : {S : Type 0} → Kind S → Type 0
NoRest {S} k = (s : S) (flow : Flow) (all : List FlowItem) (records : ℕ)
    → (k.stage s flow).at_end all records ≡ record { passed = []; dropped = [] }

-- the value stands, at a flow, for what came and what left
abbrev pub held_by : {S : Type 0} → Kind S → S → Flow → FlowInput → FlowOutput → Type 0
held_by k s flow came left = StageStands (k.stage s flow) came left × k.fits s flow came.items

-- the stages of a type as operators
abbrev pub as_operator : {S : Type 0} → Kind S → Meaning S
as_operator k = may_fail (held_by k) k.failed

-- A ROW

-- a list joins each two stages: what left the first came to the next
abbrev pub RowHolds : {S : Type 0} → (S → Flow → FlowInput → FlowOutput → Type 0) → List S → Flow → FlowInput
    → FlowOutput → Type 0
RowHolds stands [] flow came left = (left.passed ≡ came.items) × (left.dropped ≡ [])
RowHolds stands (s ∷ ss) flow came left =
    (mid : FlowOutput) × (rest : FlowOutput) × stands s flow came mid
    × RowHolds stands ss flow (record { items = mid.passed; ended = came.ended }) rest
    × (left.passed ≡ rest.passed) × IsPermutation left.dropped (mid.dropped ++ rest.dropped)

-- the stages of a row, at a flow
abbrev pub stages_at : {S : Type 0} → Kind S → List S → Flow → List FlowStage
stages_at k ss flow = map (λ s. k.stage s flow) ss

-- a row of stages, which a value holds, as an operator
abbrev pub in_row : {S T : Type 0} → Kind S → (T → List S) → (T → Bool) → Meaning T
in_row k stages failed = record {
  stands = λ t flow came left. RowHolds (held_by k) (stages t) flow came left;
  ready = λ _. Unit {0};
  failed = failed;
  spares = λ _. 0;
  least_room = λ _. 0;
  row = λ t flow. stages_at k (stages t) flow;
}

-- what a row of stages did with a packet
pub record RowTreats {S : Type 0} (k : Kind S) (old new : List S) (class : Class) (p : PacketModel)
    (r : Treated) : Type 0 where
  pub kept : keyed (treated_packet r) ≡ keyed p
  pub goes : was_lost r ≡ false
      → Extends (RowHolds (held_by k)) old new (flow_of class) (work_item class p
      ∷ []) None (left_in (added_by class.dir r))
  pub others : OthersStay (RowHolds (held_by k)) old new (flow_of class)
  pub same : map k.stage new ≡ map k.stage old

-- A row means what its stages mean one after another; what was dropped is in some order.
abbrev pub RowMeansStages : {S : Type 0} → Kind S → Type 0
RowMeansStages {S} k = (ss : List S) (flow : Flow) (came : FlowInput) (left : FlowOutput)
    → RowHolds (held_by k) ss flow came left → RowStands (stages_at k ss flow) came left
