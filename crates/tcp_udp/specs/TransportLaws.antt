-- What edits of a frame do to the checksum of its TCP or UDP layer.
use Rattle.std.specs.Prelude.{ℕ, ◌≡◌, ◌^◌, ◌<◌, true, List, Some}
use Rattle.brick_spec.specs.Bytes.{IsBytes}
use Rattle.brick_spec.specs.Layer.{Layer, header_in, source_of, destination_of, ip4_layer, tcp_layer, udp_layer}
use Rattle.brick_spec.specs.Edit.{with_source, with_destination, edited_at, with_tcp_source, with_tcp_destination}
use Rattle.brick_spec.specs.Edit.{with_tcp_address, with_udp_source, with_udp_destination, with_udp_address}
use Rattle.brick_spec.specs.Transport.{transport_ok}

-- The checksum is right again after the edit of a port, and after the edit of an address of the IPv4 layer l that the
-- header of the layer t is told of.
pub record TransportStaysRight (frame : List ℕ) (l t : Layer) (with_sport with_dport : List ℕ → ℕ
    → List ℕ) (with_address : List ℕ → ℕ → ℕ → List ℕ) : Type 0 where
  pub source_port : (port : ℕ) → port < 2 ^ 16 → transport_ok (edited_at (λ h. with_sport h port) frame t) ≡ Some true
  pub destination_port : (port : ℕ) → port < 2 ^ 16
      → transport_ok (edited_at (λ h. with_dport h port) frame t) ≡ Some true
  pub source : (address : ℕ) → address < 2 ^ 32
      → transport_ok (edited_at (λ h. with_address h (source_of (header_in frame l)) address)
      (edited_at (λ h. with_source h address) frame l) t) ≡ Some true
  pub destination : (address : ℕ) → address < 2 ^ 32
      → transport_ok (edited_at (λ h. with_address h (destination_of (header_in frame l)) address)
      (edited_at (λ h. with_destination h address) frame l) t) ≡ Some true

-- Where the checksum of a frame's TCP or UDP layer is there and right, it is so again after each of these edits.
abbrev pub TransportEditsKeepRight : Type 0
TransportEditsKeepRight =
    (frame : List ℕ) (l t : Layer) → IsBytes frame → ip4_layer frame ≡ Some l → transport_ok frame ≡ Some true
    → (tcp_layer frame ≡ Some t → TransportStaysRight frame l t with_tcp_source with_tcp_destination with_tcp_address)
    × (udp_layer frame ≡ Some t → TransportStaysRight frame l t with_udp_source with_udp_destination with_udp_address)
