-- What leaves a window stage tells the stream.
use Rattle.std.specs.Prelude.{ℕ, ◌≡◌, ◌≤◌, Bool, not, ◌&&◌, nat_eq, List, [], ◌++◌, filter, flat_map, Option, Some}
use Rattle.std.specs.Prelude.{None}
use Rattle.std.specs.List.{AllByRecursion}
use Rattle.brick_spec.specs.Flow.{Flow, Direction}
use Rattle.brick_spec.specs.FlowStage.{FlowItem, along}
use Rattle.brick_spec.specs.Layer.{Layer, payload_in, tcp_layer}
use Rattle.brick_spec.specs.Stream.{bytes_of}
use Rattle.flow_spec.specs.FlowStream.{is_same, stream_of, ready_in}
use Rattle.flow_spec.specs.Window.{rest_in, window_stage}

-- the data of an item's frame: its TCP payload
abbrev pub data_in : List ℕ → Option Layer → List ℕ
data_in frame None = []
data_in frame (Some t) = payload_in frame t

abbrev pub data_of : FlowItem → List ℕ
data_of x = data_in x.item.frame (tcp_layer x.item.frame)

-- an item of the direction that is no record's own
abbrev pub is_window : Direction → FlowItem → Bool
is_window dir x = is_same dir x.dir && not (nat_eq x.item.j 0)

-- The data of a direction's windows and of its rest, end to end, are the bytes in order of its stream: each once, from
-- the first up to the first gap.
abbrev pub TellsStream : Type 0
TellsStream =
    (size reach : ℕ) (flow : Flow) (dir : Direction) (a j : ℕ) (items : List FlowItem) → (64 ≤ size) × (size ≤ 1460)
    → AllByRecursion (λ (x : FlowItem). x.item.j ≡ 0) items
    → flat_map data_of (filter (is_window dir) (along (window_stage size reach flow) [] items).passed)
    ++ flat_map data_of (rest_in size reach dir a j items)
    ≡ bytes_of (stream_of reach dir items).payloads 0 (ready_in reach dir items)
