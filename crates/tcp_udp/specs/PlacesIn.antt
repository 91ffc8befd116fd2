-- Where the IPv4 header and the transport header of a frame stand.
use Rattle.std.specs.Prelude.{ℕ, ◌≡◌, ◌+◌, ◌-◌, ◌%◌, ◌≤◌, List, ◌++◌, length, take, drop, Some, None}
use Rattle.brick_spec.specs.Layer.{Layer, ip4_layer, tcp_layer, tcp_layer_in, udp_layer_in}
use Rattle.tcp_udp.specs.declared.places.Transport.{Transport}
use Rattle.tcp_udp.specs.declared.places.Transport.TheVariants.{Tcp, Udp}
use Rattle.tcp_udp.specs.declared.places.Places.{Places}

-- the frame has this transport layer in its IPv4 layer l
abbrev pub HasTransport : List ℕ → Layer → Transport → Layer → Type 0
HasTransport frame l Tcp t = tcp_layer_in frame l ≡ Some t
HasTransport frame l Udp t = (tcp_layer_in frame l ≡ None) × (udp_layer_in frame l ≡ Some t)

-- the fewest bytes that its header has
abbrev pub least_header : Transport → ℕ
least_header Tcp = 20
least_header Udp = 8

-- the places are those of the frame's IPv4 layer and of its transport layer
pub record ArePlaces (frame : List ℕ) (p : Places) : Type 0 where
  pub layer : Layer
  pub is : ip4_layer frame ≡ Some layer
  pub inner : Layer
  pub has : HasTransport frame layer p.transport inner
  pub starts : layer.start ≡ p.ip4
  pub middle : layer.middle ≡ p.header
  pub inner_starts : inner.start ≡ p.header
  pub inner_middle : inner.middle ≡ p.payload
  pub inner_end : inner.end ≡ p.end
  pub long : p.ip4 + 20 ≤ p.header
  pub even : (p.header - p.ip4) % 2 ≡ 0
  pub inner_long : p.header + least_header p.transport ≤ p.payload
  pub ends : p.payload ≤ p.end
  pub within : p.end ≤ length frame

-- the frame has no transport layer
abbrev pub HasNoPorts : List ℕ → Type 0
HasNoPorts frame =
    (l : Layer) → ip4_layer frame ≡ Some l → (tcp_layer_in frame l ≡ None) × (udp_layer_in frame l ≡ None)

-- the frame has the TCP layer
abbrev pub IsTcp : List ℕ → Type 0
IsTcp frame = (t : Layer) × (tcp_layer frame ≡ Some t)

-- a frame with these bytes for those from one place to another
abbrev pub with_part : ℕ → ℕ → List ℕ → List ℕ → List ℕ
with_part start end part frame = take start frame ++ (part ++ drop end frame)
