-- Stage `window`: in place of the segments in which they came, the bytes of a flow's TCP streams leave in order, in
-- frames of one size (RFC 793, section 3.3). Window i of a stream is its bytes from i * size to (i + 1) * size.
use Rattle.std.specs.Prelude.{ℕ, zero, suc, ◌+◌, ◌-◌, ◌*◌, ◌/◌, ◌%◌, ◌^◌, nat_eq, Bool, false, ◌&&◌, not, List, [], ◌∷◌}
use Rattle.std.specs.Prelude.{◌++◌, map, flat_map, Option, Some, None, unwrap_or, option_and_then, Ok, Err}
use Rattle.std.specs.Prelude.{if◌then◌else◌}
use Rattle.std.specs.Option.{option_to_list}
use Rattle.brick_spec.specs.Flow.{Direction, Forward, Reversed, Flow}
use Rattle.brick_spec.specs.FlowStage.{FlowItem, FlowOutput, FlowStage, left_by}
use Rattle.brick_spec.specs.Item.{Item}
use Rattle.brick_spec.specs.Layer.{Layer, header_in, payload_in, tcp_layer, tcp_flags}
use Rattle.brick_spec.specs.PacketizedWindow.{Template, template_of, emitted_item, bare_item}
use Rattle.brick_spec.specs.Stage.{Reach}
use Rattle.brick_spec.specs.Stream.{StreamSegment, Reassembly, ready_of, bytes_of, counts, is_empty}
use Rattle.flow_spec.specs.FlowStream.{segment_at, segment_of, is_same, stream_of, ready_in}

-- DATA OF A STREAM IN FRAMES

-- n bytes of a stream from a position on, in a frame of key (a, j); the template says all else
abbrev pub emitted_from : Reassembly → Direction → Template → ℕ → ℕ → ℕ → ℕ → FlowItem
emitted_from r dir m a j at n = record {
  dir = dir;
  item = emitted_item m ((unwrap_or r.base 0 + at) % 2 ^ 32) a j (bytes_of r.payloads at n);
}

-- n windows from the i-th on, under the keys from (a, j) on
abbrev pub windows_from : ℕ → Reassembly → Direction → Template → ℕ → ℕ → ℕ → ℕ → List FlowItem
windows_from size r dir m a j i zero = []
windows_from size r dir m a j i (suc n) =
    emitted_from r dir m a j (i * size) size ∷ windows_from size r dir m a (suc j) (suc i) n

-- The windows that an item is the trigger of: those that were not whole when so many bytes were in order, and now are.
-- The first has the key (a, 1).
abbrev pub triggered : ℕ → ℕ → Reassembly → Direction → ℕ → Template → List FlowItem
triggered size ready r dir a m =
    windows_from size r dir m a 1 (ready / size) (ready_of r.payloads / size - ready / size)

-- what a stream has behind its last window, where there is any
abbrev pub rest_of : ℕ → Reassembly → Direction → ℕ → ℕ → Template → List FlowItem
rest_of size r dir a j m =
    if nat_eq (ready_of r.payloads % size) 0 then []
    else emitted_from r dir m a j (ready_of r.payloads - ready_of r.payloads % size) (ready_of r.payloads % size)
    ∷ []

-- WHAT AN ITEM LEAVES

-- a header with SYN, FIN or RST
abbrev pub is_marked : List ℕ → Bool
is_marked header = not (nat_eq (tcp_flags header % 8) 0)

-- what an item that counts leaves of itself: a bare segment where it has SYN, FIN or RST, and else nothing
abbrev pub own_by : Bool → FlowItem → List FlowItem
own_by marked x =
    if marked then map (λ (i : Item). record { dir = x.dir; item = i }) (option_to_list (bare_item x.item)) else []

abbrev pub own_left : FlowItem → Layer → List FlowItem
own_left x t = own_by (is_marked (header_in x.item.frame t)) x

-- the windows that it is the trigger of, behind those items
abbrev pub windows_left : ℕ → ℕ → List FlowItem → FlowItem → List FlowItem
windows_left size reach before x =
    flat_map (triggered size (ready_in reach x.dir before) (stream_of reach x.dir (before ++ x
    ∷ [])) x.dir x.item.a) (option_to_list (template_of x.item))

-- Without the TCP layer an item passes as it came, and so does one without payload. One whose payload does not count is
-- dropped. Any other leaves what it leaves of itself, and then the windows.
abbrev pub told_at : ℕ → ℕ → List FlowItem → FlowItem → Option Layer → FlowOutput
told_at size reach before x None = left_by x (Ok x.item)
told_at size reach before x (Some t) =
    if is_empty (payload_in x.item.frame t) then left_by x (Ok x.item)
    else (if counts reach (stream_of reach x.dir before) (segment_at x.item.frame t)
    then record { passed = own_left x t ++ windows_left size reach before x; dropped = [] }
    else left_by x (Err Reach))

unfoldable pub window_told : ℕ → ℕ → List FlowItem → FlowItem → FlowOutput
window_told size reach before x = told_at size reach before x (tcp_layer x.item.frame)

-- THE END

-- the item's payload counts, given the items before it
abbrev pub does_count : ℕ → List FlowItem → FlowItem → Option StreamSegment → Bool
does_count reach before x None = false
does_count reach before x (Some s) = counts reach (stream_of reach x.dir before) s

abbrev pub counting_at : ℕ → Direction → List FlowItem → FlowItem → List FlowItem
counting_at reach dir before x =
    if is_same dir x.dir && does_count reach before x (segment_of x.item) then x ∷ [] else []

-- the items of a direction that count, among those of the second list, which came after those of the first
abbrev pub counting : ℕ → Direction → List FlowItem → List FlowItem → List FlowItem
counting reach dir before [] = []
counting reach dir before (x ∷ xs) = counting_at reach dir before x ++ counting reach dir (before ++ x ∷ []) xs

abbrev pub last_of : {X : Type 0} → List X → Option X
last_of [] = None
last_of (x ∷ []) = Some x
last_of (x ∷ y ∷ ys) = last_of (y ∷ ys)

-- the template of the last item of a direction that counts
unfoldable pub last_template : ℕ → Direction → List FlowItem → Option Template
last_template reach dir items =
    option_and_then (λ (x : FlowItem). template_of x.item) (last_of (counting reach dir [] items))

-- the rest of a direction, with the key (a, j)
abbrev pub rest_in : ℕ → ℕ → Direction → ℕ → ℕ → List FlowItem → List FlowItem
rest_in size reach dir a j items =
    flat_map (rest_of size (stream_of reach dir items) dir a j) (option_to_list (last_template reach dir items))

-- Forward and then Reversed. In a capture of n records the keys are those of the flow behind all records.
unfoldable pub window_rest : ℕ → ℕ → Flow → List FlowItem → ℕ → FlowOutput
window_rest size reach flow items n = record {
  passed =
      rest_in size reach Forward (n + flow.number) 0 items ++ rest_in size reach Reversed (n + flow.number) 1 items;
  dropped = [];
}

-- THE STAGE, with windows of this size, and this reach

abbrev pub window_stage : ℕ → ℕ → Flow → FlowStage
window_stage size reach flow = record { on_item = window_told size reach; at_end = window_rest size reach flow }
