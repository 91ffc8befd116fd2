-- What the calls of a tenant's work do.
use Rattle.std.specs.Prelude.{ℕ, ◌≡◌, List, [], ◌∷◌, ◌++◌, map, length, Option, Some, None, Bool, true, false}
use Rattle.std.specs.List.Sorted.{IsPermutation}
use Rattle.brick_spec.specs.Flow.{Flow}
use Rattle.brick_spec.specs.Item.{Item}
use Rattle.brick_spec.specs.FlowStage.{FlowInput}
use Rattle.brick_base.specs.Flow.{flow_of}
use Rattle.work_core.specs.Classed.{classed}
use Rattle.packet_owner.specs.Buffer.{BufferModel}
use Rattle.packet_owner.specs.Spare.{AreSlots}
use Rattle.batch_ops.specs.declared.batch.Work.{Work}
use Rattle.batch_ops.specs.Outlet.{IsEmptied}
use Rattle.flow_spec.specs.Parts.{Parts}
use Rattle.flow_spec.specs.Answer.{ClassedItem, flows_of}
use Rattle.flow_work.specs.Meaning.{Meaning, numbers_of}
use Rattle.std.specs.List.{AllByRecursion}
use Rattle.flow_work.specs.Log.{Entry, EndedFor, fresh}
use Rattle.flow_work.proofs.Logs.{GoneBy}
use Rattle.flow_work.specs.Buffers.{Recycled, work_buffer}
use Rattle.chain_nodes.specs.declared.work.NodeWork.{NodeWork}
use Rattle.chain_nodes.specs.Flows.{AreSeen, flows_in}

abbrev pub none_came : FlowInput
none_came = record { items = []; ended = None }

-- nothing came to it
pub record IsNewNode {N : Type 0} (stands : N → Flow → FlowInput → Parts → Type 0) (results : N
    → List (List Item)) (n : N) : Type 0 where
  pub nothing : (f : Flow) → stands n f none_came (fresh (results n))
  pub empty : AllByRecursion (λ list. list ≡ []) (results n)

module _ {N : Type 0} (stands : N → Flow → FlowInput → Parts → Type 0) (makes : N → Meaning) (results : N
    → List (List Item)) (serves : N → ℕ → ℕ → ℕ → Type 0) where
  abbrev pub work_stands : NodeWork N → Flow → FlowInput → Parts → Type 0
  work_stands w = stands w.root

  abbrev pub work_makes : NodeWork N → Meaning
  work_makes w = makes w.root

  abbrev pub work_results : NodeWork N → List (List Item)
  work_results w = results w.root

  abbrev pub work_counts : NodeWork N → List ℕ
  work_counts w = w.desk.counts

  -- The work stands for this list of items with their classes: what it keeps of each flow, and what it made of it, fit
  -- what came of that flow. It hides in which turn the flows wrote.
  pub record StandsFor (w : NodeWork N) (list : List ClassedItem) : Type 0 where
    pub log : List Entry
    pub means : EndedFor work_stands work_results work_counts 0 [] w list log
    pub flows : flows_in w.flows ≡ flows_of list

  -- the same after the end of all flows, in a capture of so many records
  pub record EndedWith (n : ℕ) (w : NodeWork N) (list : List ClassedItem) : Type 0 where
    pub log : List Entry
    pub means : EndedFor work_stands work_results work_counts n (numbers_of (flows_of list)) w list log

  -- it may be used
  pub record IsReady (w : NodeWork N) : Type 0 where
    pub ready : serves w.root w.desk.out.spare.count w.desk.out.spare.bytes (length w.desk.out.spare.free)
    pub rest : IsEmptied w.desk.out
    pub slots : AreSlots w.desk.out.spare.count w.desk.out.spare.free
    pub seen : w.failed ≡ false → AreSeen w.flows

  -- what handling packets did, of which the buffers wait to go back
  pub record Handled (old new : NodeWork N) (works : List Work) : Type 0 where
    pub ready : IsReady new
    pub recycled : Recycled (map work_buffer works) old.desk.back new.desk.back old.desk.out.spare new.desk.out.spare
    pub stays_failed : old.failed ≡ true → new.failed ≡ true
    pub stands_for : new.failed ≡ false → (list : List ClassedItem) → StandsFor old list
        → StandsFor new (list ++ map classed works)
    pub same : makes new.root ≡ makes old.root
    pub many : length (results new.root) ≡ length (results old.root)
    pub ended : new.ended ≡ old.ended

  -- what a turn did
  pub record Turned (old new : NodeWork N) (batch : List Work) (back : List BufferModel) : Type 0 where
    -- the buffers of the batch come back, each once, with the rooms that they had
    pub buffers : IsPermutation (map work_buffer batch) back
    pub ready : IsReady new
    pub none_left : new.desk.back ≡ []
    pub ended : new.ended ≡ old.ended
    pub stays_failed : old.failed ≡ true → new.failed ≡ true
    -- it stands for the packets too, whatever it stood for, or has failed
    pub stands_for : new.failed ≡ false → (list : List ClassedItem) → StandsFor old list
        → StandsFor new (list ++ map classed batch)
    -- what no call changes
    pub same : makes new.root ≡ makes old.root
    pub many : length (results new.root) ≡ length (results old.root)

  -- what the end of a flow did
  pub record FlowEnded (old new : NodeWork N) (flow : Flow) (records : ℕ) : Type 0 where
    pub ready : IsReady new
    pub recycled : Recycled [] old.desk.back new.desk.back old.desk.out.spare new.desk.out.spare
    pub stays_failed : old.failed ≡ true → new.failed ≡ true
    pub goes : new.failed ≡ false
        → (added : Parts) × GoneBy work_stands work_makes work_results work_counts old new flow [] (Some records) added
    pub same : makes new.root ≡ makes old.root
    pub many : length (results new.root) ≡ length (results old.root)
    pub flows : new.flows ≡ old.flows
    pub ended : new.ended ≡ old.ended

  -- what the end did
  pub record Ended (old new : NodeWork N) (records : ℕ) : Type 0 where
    pub ended : new.ended ≡ Some records
    pub stays_failed : old.failed ≡ true → new.failed ≡ true
    pub stands_for : new.failed ≡ false → (list : List ClassedItem) → StandsFor old list → EndedWith records new list
    pub same : makes new.root ≡ makes old.root
    pub many : length (results new.root) ≡ length (results old.root)
