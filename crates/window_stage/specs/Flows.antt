-- What is kept of all flows, and what one packet does there.
use Rattle.std.specs.Prelude.{ℕ, ◌≡◌, ◌≢◌, ◌+◌, ◌/◌, List, [], ◌∷◌, ◌++◌, Option, Some, None, false, Result, OnOk}
use Rattle.std.specs.Prelude.{OnErr, ⊤}
use Rattle.std.specs.List.{AllByRecursion, list_any}
use Rattle.brick_spec.specs.Flow.{Direction, Forward, Reversed}
use Rattle.brick_spec.specs.FlowStage.{FlowItem}
use Rattle.brick_base.specs.declared.flow.Dir.{Dir}
use Rattle.brick_base.specs.declared.memory.NoMemory.{NoMemory}
use Rattle.packet_owner.specs.Packet.{PacketModel}
use Rattle.batch_ops.specs.declared.outlet.Outlet.{Outlet}
use Rattle.batch_ops.specs.Outlet.{Added, Moves, HasOtherKey, only_lost, is_lost, left_in, keyed}
use Rattle.flow_spec.specs.FlowStream.{segments_of}
use Rattle.flow_spec.specs.Window.{last_template, window_told}
use Rattle.window_stage.specs.Own.{item_in}
use Rattle.window_stage.specs.FlowHalves.{FlowHalvesFit}
use Rattle.window_stage.specs.Kept.{kept_at}
use Rattle.window_stage.specs.declared.flow_halves.FlowHalves.{FlowHalves}
use Rattle.window_stage.specs.declared.flows.Flows.{Flows}

-- none of the items is a TCP segment of the direction
abbrev pub NoSegments : ℕ → Direction → List FlowItem → Type 0
NoSegments reach dir items = (segments_of dir items ≡ []) × (last_template reach dir items ≡ None)

-- What is kept of a flow stands for its items so far. Nothing is kept where none was a TCP segment.
abbrev pub FitsAt : ℕ → Option FlowHalves → List FlowItem → Type 0
FitsAt reach None items = NoSegments reach Forward items × NoSegments reach Reversed items
FitsAt reach (Some h) items = FlowHalvesFit h items

-- at a flow
abbrev pub FlowsFit : Flows → ℕ → List FlowItem → Type 0
FlowsFit flows flow items = FitsAt flows.reach (kept_at flows.halves.items flow) items

-- nothing changed at another flow
abbrev pub OthersKept : Flows → Flows → ℕ → Type 0
OthersKept old new flow = (q : ℕ) → q ≢ flow → kept_at new.halves.items q ≡ kept_at old.halves.items q

abbrev pub IsSameSize : Flows → Flows → Type 0
IsSameSize old new = (new.size ≡ old.size) × (new.reach ≡ old.reach)

-- what a packet with the TCP layer did
pub record FlowsStepped (old new : Flows) (flow : ℕ) (dir : Dir) (p : PacketModel) (out out' : Outlet)
    (result : Result ⊤ NoMemory) : Type 0 where
  pub added : Added
  pub moves : Moves (keyed p ∷ []) (old.reach / old.size + 1) out out' added
  pub apart : p.j ≡ 0 → AllByRecursion (HasOtherKey (keyed p)) moves.made
  pub goes : OnOk result ((items : List FlowItem) → FlowsFit old flow items
      → FlowsFit new flow (items ++ item_in dir p ∷ [])
      × (left_in added ≡ window_told old.size old.reach items (item_in dir p)))
  pub others : OthersKept old new flow
  pub none_lost : OnOk result (list_any is_lost added.dropped ≡ false)
  pub lost : OnErr result (added ≡ only_lost p)
  pub same : IsSameSize old new
