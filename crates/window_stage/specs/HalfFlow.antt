-- What is kept of one direction of a flow, and what one packet does there.
use Rattle.std.specs.Prelude.{ℕ, ◌≡◌, ◌+◌, ◌/◌, List, [], ◌∷◌, ◌++◌, Option, option_map, false, Result, OnOk, OnErr, ⊤}
use Rattle.std.specs.List.{AllByRecursion, list_any}
use Rattle.brick_spec.specs.Flow.{Direction}
use Rattle.brick_spec.specs.FlowStage.{FlowItem}
use Rattle.brick_spec.specs.PacketizedWindow as spec
use Rattle.brick_base.specs.Flow.{dir_view}
use Rattle.brick_base.specs.declared.flow.Dir.{Dir}
use Rattle.brick_base.specs.declared.memory.NoMemory.{NoMemory}
use Rattle.packet_owner.specs.Packet.{PacketModel}
use Rattle.batch_ops.specs.declared.outlet.Outlet.{Outlet}
use Rattle.batch_ops.specs.Outlet.{Added, Moves, HasOtherKey, only_lost, is_lost, left_in, keyed}
use Rattle.packetize.specs.View.{template_view}
use Rattle.packetize.specs.declared.templates.Template.{Template}
use Rattle.window_stream.specs.StreamModel.{StandsFor}
use Rattle.flow_spec.specs.FlowStream.{segments_of}
use Rattle.flow_spec.specs.Window.{last_template, window_told}
use Rattle.window_stage.specs.Own.{item_in}
use Rattle.window_stage.specs.declared.half_flow.HalfFlow.{HalfFlow}

abbrev pub last_view : Option Template → Option spec.Template
last_view last = option_map template_view last

-- it stands, for the items of the flow so far
pub record HalfFlowFits (dir : Direction) (w : HalfFlow) (items : List FlowItem) : Type 0 where
  pub stream : StandsFor w.stream (segments_of dir items)
  pub last : last_view w.last ≡ last_template w.stream.reach dir items

-- how many windows a packet is the trigger of, at most
abbrev pub most_windows : HalfFlow → ℕ
most_windows w = w.stream.reach / w.size + 1

-- what a packet with the TCP layer did
pub record HalfFlowStepped (old new : HalfFlow) (dir : Dir) (p : PacketModel) (out out' : Outlet)
    (result : Result ⊤ NoMemory) : Type 0 where
  pub added : Added
  pub moves : Moves (keyed p ∷ []) (most_windows old) out out' added
  pub apart : p.j ≡ 0 → AllByRecursion (HasOtherKey (keyed p)) moves.made
  pub goes : OnOk result ((items : List FlowItem) → HalfFlowFits (dir_view dir) old items
      → HalfFlowFits (dir_view dir) new (items ++ item_in dir p ∷ [])
      × (left_in added ≡ window_told old.size old.stream.reach items (item_in dir p)))
  pub none_lost : OnOk result (list_any is_lost added.dropped ≡ false)
  pub lost : OnErr result (added ≡ only_lost p)
  pub same_size : new.size ≡ old.size
  pub same_reach : new.stream.reach ≡ old.stream.reach
