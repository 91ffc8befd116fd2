-- What is kept of a flow, and what one packet does there.
use Rattle.std.specs.Prelude.{ℕ, ◌≡◌, List, [], ◌∷◌, ◌++◌, None, false, Result, OnOk, OnErr, ⊤}
use Rattle.std.specs.List.{AllByRecursion, list_any}
use Rattle.brick_spec.specs.Flow.{Forward, Reversed}
use Rattle.brick_spec.specs.FlowStage.{FlowItem}
use Rattle.brick_base.specs.declared.flow.Dir.{Dir}
use Rattle.brick_base.specs.declared.memory.NoMemory.{NoMemory}
use Rattle.packet_owner.specs.Packet.{PacketModel}
use Rattle.batch_ops.specs.declared.outlet.Outlet.{Outlet}
use Rattle.batch_ops.specs.Outlet.{Added, Moves, HasOtherKey, only_lost, is_lost, left_in, keyed}
use Rattle.window_stream.specs.StreamModel.{StandsFor}
use Rattle.flow_spec.specs.Window.{rest_in, window_told}
use Rattle.window_stage.specs.Own.{item_in}
use Rattle.window_stage.specs.HalfFlow.{HalfFlowFits, most_windows}
use Rattle.window_stage.specs.declared.flow_halves.FlowHalves.{FlowHalves}
use Rattle.window_stage.specs.declared.half_flow.HalfFlow.{HalfFlow}

-- a direction to which nothing came
abbrev pub IsFresh : ℕ → ℕ → HalfFlow → Type 0
IsFresh size reach w = (w.size ≡ size) × (w.stream.reach ≡ reach) × StandsFor w.stream [] × (w.last ≡ None)

-- both directions stand, for the items of the flow so far
abbrev pub FlowHalvesFit : FlowHalves → List FlowItem → Type 0
FlowHalvesFit h items = HalfFlowFits Forward h.forward items × HalfFlowFits Reversed h.reversed items

-- the rests of both directions, Forward and then Reversed
abbrev pub rests_in : ℕ → ℕ → ℕ → List FlowItem → List FlowItem
rests_in size reach a items = rest_in size reach Forward a 0 items ++ rest_in size reach Reversed a 1 items

-- what a packet with the TCP layer did
pub record FlowHalvesStepped (old new : FlowHalves) (dir : Dir) (p : PacketModel) (out out' : Outlet)
    (result : Result ⊤ NoMemory) : Type 0 where
  pub added : Added
  pub moves : Moves (keyed p ∷ []) (most_windows old.forward) out out' added
  pub apart : p.j ≡ 0 → AllByRecursion (HasOtherKey (keyed p)) moves.made
  pub goes : OnOk result ((items : List FlowItem) → FlowHalvesFit old items
      → FlowHalvesFit new (items ++ item_in dir p ∷ [])
      × (left_in added ≡ window_told old.forward.size old.forward.stream.reach items (item_in dir p)))
  pub none_lost : OnOk result (list_any is_lost added.dropped ≡ false)
  pub lost : OnErr result (added ≡ only_lost p)
  pub same_size : new.forward.size ≡ old.forward.size
  pub same_reach : new.forward.stream.reach ≡ old.forward.stream.reach
