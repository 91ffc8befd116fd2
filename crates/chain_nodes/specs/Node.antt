-- What a call of a place of a chain does, with its desk.
use Rattle.std.specs.Prelude.{ℕ, ◌≡◌, ◌<◌, ◌≤◌, List, [], ◌∷◌, map, length, Option, Result, OnOk, ⊤, ◌⊎◌, vec_capacity}
use Rattle.brick_spec.specs.Flow.{Flow}
use Rattle.brick_spec.specs.Item.{Item}
use Rattle.brick_spec.specs.FlowStage.{FlowItem, FlowInput, FlowOutput}
use Rattle.brick_base.specs.declared.memory.NoMemory.{NoMemory}
use Rattle.packet_owner.specs.Buffer.{BufferModel}
use Rattle.batch_ops.specs.declared.outlet.Passed.{Passed}
use Rattle.batch_ops.specs.Outlet.{IsEmptied}
use Rattle.flow_spec.specs.Parts.{Parts}
use Rattle.flow_work.specs.Meaning.{Meaning}
use Rattle.flow_work.specs.Node.{Went}
use Rattle.flow_work.specs.Log.{CountsMore}
use Rattle.flow_work.specs.Buffers.{Recycled}
use Rattle.chain_nodes.specs.declared.desk.Desk.{Desk}

-- What handling items of a flow, or its end, did, where the items came in these buffers. The buffers come to rest
-- whatever the answer.
pub record Took {N : Type 0} (stands : N → Flow → FlowInput → Parts → Type 0) (makes : N → Meaning) (results : N
    → List (List Item)) (serves : N → ℕ → ℕ → ℕ
    → Type 0) (old new : N) (flow : Flow) (bs : List BufferModel) (items : List FlowItem) (ended : Option ℕ)
    (desk desk' : Desk) (result : Result ⊤ NoMemory) : Type 0 where
  -- what it means, and what was counted
  pub went : OnOk result ((added : Parts) × Went stands makes results old new flow items ended added
      × CountsMore desk.counts desk'.counts added.dropped)
  pub recycled : Recycled bs desk.back desk'.back desk.out.spare desk'.out.spare
  pub emptied : IsEmptied desk'.out
  -- what no call changes
  pub stays : (count bytes free : ℕ) → count ≡ desk.out.spare.count → serves old count bytes free
      → serves new count bytes free
  pub same : makes new ≡ makes old
  pub many : length (results new) ≡ length (results old)

-- A row of stages and a place behind it may be used beside a store of so many spare buffers of so many bytes, of which
-- so many lie ready. One of the two needs none.
pub record PipeServes {P N : Type 0} (ready : P → Type 0) (spares least_room : P → ℕ) (serves : N → ℕ → ℕ → ℕ
    → Type 0) (p : P) (n : N) (waiting : List Passed) (room count bytes free : ℕ) : Type 0 where
  pub ready_row : ready p
  pub within : spares p ≤ count
  pub enough : spares p ≤ free
  pub long : least_room p ≤ bytes
  pub behind : serves n count bytes free
  pub one_is_plain : (spares p ≡ 0) ⊎ serves n count bytes 0
  pub none_waits : waiting ≡ []
  pub has_room : count < room
