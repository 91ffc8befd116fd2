-- A packet whose places are those of the layers of its frame, and what `parse` finds in it.
use Rattle.std.specs.Prelude.{ℕ, ◌≡◌, List, [], ◌∷◌, Option, Some, None, MatchOption}
use Rattle.brick_spec.specs.Layer.{Layer, ethernet_length, ethernet_layer, ip4_length, ip4_extent, ip4_layer}
use Rattle.brick_spec.specs.Layer.{tcp_length, tcp_extent, tcp_layer, udp_length, udp_extent, udp_layer}
use Rattle.packet_owner.specs.Packet.{PacketModel, parsed}

-- no layer was read
abbrev pub IsAtFrame : PacketModel → Type 0
IsAtFrame p = p.layers ≡ []

-- the layer that was read is that of the frame
pub record IsAtEthernet (p : PacketModel) : Type 0 where
  pub ethernet : Layer
  pub ethernet_is : ethernet_layer p.frame ≡ Some ethernet
  pub layers_are : p.layers ≡ ethernet ∷ []

-- the two layers that were read are those of the frame
pub record IsAtIp4 (p : PacketModel) : Type 0 where
  pub ethernet : Layer
  pub ip4 : Layer
  pub ethernet_is : ethernet_layer p.frame ≡ Some ethernet
  pub ip4_is : ip4_layer p.frame ≡ Some ip4
  pub layers_are : p.layers ≡ ip4 ∷ (ethernet ∷ [])

-- the three layers that were read are those of the frame, where `inner` gives the third
pub record IsAtTransport (inner : List ℕ → Option Layer) (p : PacketModel) : Type 0 where
  pub ethernet : Layer
  pub ip4 : Layer
  pub transport : Layer
  pub ethernet_is : ethernet_layer p.frame ≡ Some ethernet
  pub ip4_is : ip4_layer p.frame ≡ Some ip4
  pub transport_is : inner p.frame ≡ Some transport
  pub layers_are : p.layers ≡ transport ∷ (ip4 ∷ (ethernet ∷ []))

-- Where the places of a packet are those of its frame's layers, the next layer is found exactly where the frame has it,
-- and the places are again those of the frame's layers.
pub record FindsLayers (p : PacketModel) : Type 0 where
  pub ethernet : IsAtFrame p
      → MatchOption (parsed (λ _ rest. ethernet_length rest) (λ _ room. room) p) (ethernet_layer p.frame
      ≡ None) (λ q. IsAtEthernet q)
  pub ip4 : IsAtEthernet p → MatchOption (parsed ip4_length ip4_extent p) (ip4_layer p.frame ≡ None) (λ q. IsAtIp4 q)
  pub tcp : IsAtIp4 p → MatchOption (parsed tcp_length tcp_extent p) (tcp_layer p.frame
      ≡ None) (λ q. IsAtTransport tcp_layer q)
  pub udp : IsAtIp4 p → MatchOption (parsed udp_length udp_extent p) (udp_layer p.frame
      ≡ None) (λ q. IsAtTransport udp_layer q)

abbrev pub ParseFindsLayers : Type 0
ParseFindsLayers = (p : PacketModel) → FindsLayers p
