-- What `parse` finds in a packet whose places are those of its frame's layers.
use Rattle.std.proofs.Common.{◌≡◌, ℕ, ◌+◌, ◌-◌, ◌≤◌, List, [], ◌∷◌, ◌++◌, length, take, drop, Option, Some, None, refl, ap, sym, ◌∙◌, arith, length-take-le, length-drop, length-append}
use Rattle.std.proofs.lemmas.List.{drop-drop, take_all}
use Rattle.std.specs.Prelude.{option_map, option_and_then, MatchOption}
use Rattle.brick_spec.specs.Layer.{Layer, ethernet_length, ethernet_layer, ip4_length, ip4_extent, ip4_layer_in, ip4_layer, tcp_length, tcp_extent, tcp_layer, udp_length, udp_extent, udp_layer}
use Rattle.packet_owner.specs.Packet.{PacketModel, innermost, here_of, next_layer, parsed, overwritten}
use Rattle.brick_spec.specs.Edit.{with_header}
use Rattle.packet_owner.proofs.Raw.{raw_ethernet}
use Rattle.tcp_udp.specs.PacketLayers.{IsAtFrame, IsAtEthernet, IsAtIp4, IsAtTransport, FindsLayers}

match_mapped : (o : Option Layer) (f : Layer → PacketModel) (N : Type 0) (S : PacketModel → Type 0) → (o ≡ None → N) → ((l : Layer) → o ≡ Some l → S (f l)) → MatchOption (option_map f o) N S
match_mapped None f N S n s = n refl
match_mapped (Some l) f N S n s = s l refl

-- the next layer of a packet, where that of its place is known
next_is : (length_of : List ℕ → List ℕ → Option ℕ) (extent_of : List ℕ → ℕ → ℕ) (p : PacketModel) (ls : List Layer) → p.layers ≡ ls
    → next_layer length_of extent_of p.frame (here_of p) ≡ next_layer length_of extent_of p.frame (innermost ls (length p.frame))
next_is length_of extent_of p ls h = ap (λ (xs : List Layer). next_layer length_of extent_of p.frame (innermost xs (length p.frame))) h

pub ethernet_found : (p : PacketModel) → IsAtFrame p → MatchOption (parsed (λ _ rest. ethernet_length rest) (λ _ room. room) p) (ethernet_layer p.frame ≡ None) (λ q. IsAtEthernet q)
ethernet_found p h =
    let next : next_layer (λ _ rest. ethernet_length rest) (λ _ room. room) p.frame (here_of p) ≡ ethernet_layer p.frame = next_is (λ _ rest. ethernet_length rest) (λ _ room. room) p [] h ∙ raw_ethernet p.frame in
    match_mapped (next_layer (λ _ rest. ethernet_length rest) (λ _ room. room) p.frame (here_of p)) (λ l. record p { layers = l ∷ p.layers }) (ethernet_layer p.frame ≡ None) (λ q. IsAtEthernet q)
    (λ n. sym next ∙ n)
    (λ l s. record { ethernet = l; ethernet_is = sym next ∙ s; layers_are = ap (λ (ls : List Layer). l ∷ ls) h })

pub ip4_found : (p : PacketModel) → IsAtEthernet p → MatchOption (parsed ip4_length ip4_extent p) (ip4_layer p.frame ≡ None) (λ q. IsAtIp4 q)
ip4_found p h =
    let next : next_layer ip4_length ip4_extent p.frame (here_of p) ≡ ip4_layer p.frame =
    next_is ip4_length ip4_extent p (h.ethernet ∷ []) h.layers_are ∙ sym (ap (option_and_then (ip4_layer_in p.frame)) h.ethernet_is) in
    match_mapped (next_layer ip4_length ip4_extent p.frame (here_of p)) (λ l. record p { layers = l ∷ p.layers }) (ip4_layer p.frame ≡ None) (λ q. IsAtIp4 q)
    (λ n. sym next ∙ n)
    (λ l s. record { ethernet = h.ethernet; ip4 = l; ethernet_is = h.ethernet_is; ip4_is = sym next ∙ s; layers_are = ap (λ (ls : List Layer). l ∷ ls) h.layers_are })

-- TCP or UDP
transport_found : (length_of : List ℕ → List ℕ → Option ℕ) (extent_of : List ℕ → ℕ → ℕ) (p : PacketModel) (h : IsAtIp4 p)
    → MatchOption (parsed length_of extent_of p) (option_and_then (next_layer length_of extent_of p.frame) (ip4_layer p.frame) ≡ None)
    (λ q. IsAtTransport (λ frame. option_and_then (next_layer length_of extent_of frame) (ip4_layer frame)) q)
transport_found length_of extent_of p h =
    let next : next_layer length_of extent_of p.frame (here_of p) ≡ option_and_then (next_layer length_of extent_of p.frame) (ip4_layer p.frame) =
    next_is length_of extent_of p (h.ip4 ∷ (h.ethernet ∷ [])) h.layers_are ∙ sym (ap (option_and_then (next_layer length_of extent_of p.frame)) h.ip4_is) in
    match_mapped (next_layer length_of extent_of p.frame (here_of p)) (λ l. record p { layers = l ∷ p.layers }) (option_and_then (next_layer length_of extent_of p.frame) (ip4_layer p.frame) ≡ None)
    (λ q. IsAtTransport (λ frame. option_and_then (next_layer length_of extent_of frame) (ip4_layer frame)) q)
    (λ n. sym next ∙ n)
    (λ l s. record {
      ethernet = h.ethernet;
      ip4 = h.ip4;
      transport = l;
      ethernet_is = h.ethernet_is;
      ip4_is = h.ip4_is;
      transport_is = sym next ∙ s;
      layers_are = ap (λ (ls : List Layer). l ∷ ls) h.layers_are;
    })

pub tcp_found : (p : PacketModel) → IsAtIp4 p → MatchOption (parsed tcp_length tcp_extent p) (tcp_layer p.frame ≡ None) (λ q. IsAtTransport tcp_layer q)
tcp_found p h = transport_found tcp_length tcp_extent p h

pub udp_found : (p : PacketModel) → IsAtIp4 p → MatchOption (parsed udp_length udp_extent p) (udp_layer p.frame ≡ None) (λ q. IsAtTransport udp_layer q)
udp_found p h = transport_found udp_length udp_extent p h

pub finds_layers : (p : PacketModel) → FindsLayers p
finds_layers p = record {
  ethernet = λ h. ethernet_found p h;
  ip4 = λ h. ip4_found p h;
  tcp = λ h. tcp_found p h;
  udp = λ h. udp_found p h;
}

-- a header that is written over its place in a frame
pub overwritten-header : (frame : List ℕ) (l : Layer) (header : List ℕ) → l.start ≤ l.middle → l.middle ≤ length frame → length header ≡ l.middle - l.start → overwritten frame l.start header ≡ with_header frame l header
overwritten-header frame l header order there long =
    let behind = drop (length header) (drop l.start frame) in
    let place : l.start + length header ≡ l.middle = omega arith in
    let moved : behind ≡ drop l.middle frame = drop-drop (length header) l.start frame ∙ ap (λ k. drop k frame) place in
    let front = length-take-le l.start frame (omega arith) in
    let rest = length-drop l.middle frame in
    let both = length-append (take l.start frame) (header ++ behind) in
    let tail = length-append header behind in
    let whole : length (take l.start frame ++ (header ++ behind)) ≤ length frame = omega (arith, ap length moved) in
    take_all (length frame) (take l.start frame ++ (header ++ behind)) whole ∙ ap (λ xs. take l.start frame ++ (header ++ xs)) moved
