-- A place that has one place in it, and is as that.
use Rattle.std.proofs.Common.{ℕ, List, Option, Result, Ok, Err, OnOk}
use Rattle.std.specs.Prelude.{⊤}
use Rattle.brick_spec.specs.Flow.{Flow}
use Rattle.brick_spec.specs.Item.{Item}
use Rattle.brick_spec.specs.FlowStage.{FlowItem, FlowInput}
use Rattle.brick_base.specs.declared.memory.NoMemory.{NoMemory}
use Rattle.packet_owner.specs.Buffer.{BufferModel}
use Rattle.flow_spec.specs.Parts.{Parts}
use Rattle.flow_work.specs.Meaning.{Meaning}
use Rattle.flow_work.specs.Node.{Went}
use Rattle.flow_work.specs.Log.{CountsMore}
use Rattle.chain_nodes.specs.Node.{Took}
use Rattle.chain_nodes.specs.declared.desk.Desk.{Desk}

module _ {T N : Type 0} (inside : T → N) (stands : N → Flow → FlowInput → Parts → Type 0) (makes : N → Meaning) (results : N → List (List Item)) (serves : N → ℕ → ℕ → ℕ → Type 0) (old new : T) (flow : Flow) (items : List FlowItem) (ended : Option ℕ) (desk desk' : Desk) where
  went_inside : (r : Result ⊤ NoMemory)
      → OnOk r ((added : Parts) × Went stands makes results (inside old) (inside new) flow items ended added × CountsMore desk.counts desk'.counts added.dropped)
      → OnOk r ((added : Parts) × Went (λ (t : T). stands (inside t)) (λ t. makes (inside t)) (λ t. results (inside t)) old new flow items ended added × CountsMore desk.counts desk'.counts added.dropped)
  went_inside (Ok x) (added, w, counts) = (added, record { goes = w.goes; others = w.others; kept = w.kept; long = w.long; same = w.same }, counts)
  went_inside (Err e) h = h

  pub took_inside : (bs : List BufferModel) (r : Result ⊤ NoMemory) → Took stands makes results serves (inside old) (inside new) flow bs items ended desk desk' r
      → Took (λ (t : T). stands (inside t)) (λ t. makes (inside t)) (λ t. results (inside t)) (λ t. serves (inside t)) old new flow bs items ended desk desk' r
  took_inside bs r t = record { went = went_inside r t.went; recycled = t.recycled; emptied = t.emptied; stays = t.stays; same = t.same; many = t.many }
