-- Packets with other Ethernet addresses: their layers stay those of their frames.
use Rattle.std.proofs.Common.{◌≡◌, ℕ, ◌+◌, ◌-◌, ◌*◌, ◌≤◌, List, ◌++◌, length, length-append, length-drop, length-take-le, take, drop, slice_index, ap, sym, ◌∙◌, arith, append_assoc}
use Rattle.std.proofs.lemmas.List.{get_or-drop, get_or-append-add, drop-drop, drop_at}
use Rattle.brick_spec.specs.Edit.{with_ethernet_destination, with_ethernet_source}
use Rattle.brick_spec.specs.Layer.{ip4_layer}
use Rattle.brick_spec.specs.Tuple.{tuple_of}
use Rattle.eth_ip.proofs.FrameLayers.{ip4_layer_says, ip4_layer-same}
use Rattle.packet_owner.specs.Packet.{PacketModel, with_bytes, with_frame}
use Rattle.packet_owner.proofs.Raw.{whole_with_bytes}
use Rattle.read_row.specs.Read.{IsRead}
use Rattle.read_row.proofs.Tuples.{frame_ends, same_tuple}

pub byte_behind : (frame mac : List ℕ) (k : ℕ) → length mac ≡ 6 → 6 ≤ k → slice_index (with_ethernet_destination frame mac) k ≡ slice_index frame k
byte_behind frame mac k long h =
    let at : k ≡ length mac + (k - 6) = omega arith in
    let back : 6 + (k - 6) ≡ k = omega arith in
    ap (slice_index (mac ++ drop 6 frame)) at ∙ (get_or-append-add mac (drop 6 frame) (k - 6) 0 ∙ (get_or-drop 6 frame (k - 6) 0 ∙ ap (slice_index frame) back))

-- another Ethernet destination
unfoldable pub destination_read : (q q' : PacketModel) (mac : List ℕ) → IsRead q → length mac ≡ 6 → q' ≡ with_frame q (with_ethernet_destination q.frame mac) → IsRead q'
destination_read q q' mac is long e =
    let says = ip4_layer_says q.frame is.layer is.is in
    let m = says.long in
    let o = says.there in
    let frame' = with_ethernet_destination q.frame mac in
    let both = length-append mac (drop 6 q.frame) in
    let rest = length-drop 6 q.frame in
    let high = get_or-drop 16 frame' 0 0 ∙ (byte_behind q.frame mac 16 long (omega arith) ∙ sym (get_or-drop 16 q.frame 0 0)) in
    let low = get_or-drop 16 frame' 1 0 ∙ (byte_behind q.frame mac 17 long (omega arith) ∙ sym (get_or-drop 16 q.frame 1 0)) in
    record {
      ethernet = is.ethernet;
      layer = is.layer;
      layers = ap (λ (x : PacketModel). x.layers) e ∙ is.layers;
      is = ap (λ (x : PacketModel). ip4_layer x.frame) e
          ∙ ip4_layer-same q.frame frame' is.layer (omega arith) (λ k low high. byte_behind q.frame mac k long (omega arith)) (λ i. high i * 256 + (low i * 1 + 0)) is.is;
    }

unfoldable pub sent_read : (q : PacketModel) (mac frame ws : List ℕ) → IsRead q → length mac ≡ 6 → frame ≡ q.frame → ws ≡ with_ethernet_destination frame mac → IsRead (with_bytes q 0 ws)
sent_read q mac frame ws is long same e =
    let says = ip4_layer_says q.frame is.layer is.is in
    let m = says.long in
    let o = says.there in
    let whole : ws ≡ with_ethernet_destination q.frame mac = e ∙ ap (λ f. with_ethernet_destination f mac) same in
    let size = ap length whole in
    let both = length-append mac (drop 6 q.frame) in
    let rest = length-drop 6 q.frame in
    destination_read q (with_bytes q 0 ws) mac is long (whole_with_bytes q ws (omega arith) ∙ ap (with_frame q) whole)

pub byte_far : (frame mac : List ℕ) (k : ℕ) → length mac ≡ 6 → 12 ≤ length frame → 12 ≤ k → slice_index (with_ethernet_source frame mac) k ≡ slice_index frame k
byte_far frame mac k long size h =
    let front : length (take 6 frame) ≡ 6 = length-take-le 6 frame (omega arith) in
    let first : k ≡ length (take 6 frame) + (k - 6) = omega arith in
    let at : k - 6 ≡ length mac + (k - 12) = omega arith in
    let back : 12 + (k - 12) ≡ k = omega arith in
    let rest = mac ++ drop 12 frame in
    ap (slice_index (take 6 frame ++ rest)) first ∙ (get_or-append-add (take 6 frame) rest (k - 6) 0
    ∙ (ap (slice_index rest) at ∙ (get_or-append-add mac (drop 12 frame) (k - 12) 0 ∙ (get_or-drop 12 frame (k - 12) 0 ∙ ap (slice_index frame) back))))

-- another Ethernet source
unfoldable pub from_read : (q : PacketModel) (mac frame ws : List ℕ) → IsRead q → length mac ≡ 6 → frame ≡ q.frame → ws ≡ with_ethernet_source frame mac → IsRead (with_bytes q 0 ws)
from_read q mac frame ws is long same e =
    let says = ip4_layer_says q.frame is.layer is.is in
    let m = says.long in
    let o = says.there in
    let frame' = with_ethernet_source q.frame mac in
    let whole : ws ≡ frame' = e ∙ ap (λ f. with_ethernet_source f mac) same in
    let size = ap length whole in
    let front : length (take 6 q.frame) ≡ 6 = length-take-le 6 q.frame (omega arith) in
    let outer = length-append (take 6 q.frame) (mac ++ drop 12 q.frame) in
    let inner = length-append mac (drop 12 q.frame) in
    let rest = length-drop 12 q.frame in
    let now : with_bytes q 0 ws ≡ with_frame q frame' = whole_with_bytes q ws (omega arith) ∙ ap (with_frame q) whole in
    let high = get_or-drop 16 frame' 0 0 ∙ (byte_far q.frame mac 16 long (omega arith) (omega arith) ∙ sym (get_or-drop 16 q.frame 0 0)) in
    let low = get_or-drop 16 frame' 1 0 ∙ (byte_far q.frame mac 17 long (omega arith) (omega arith) ∙ sym (get_or-drop 16 q.frame 1 0)) in
    record {
      ethernet = is.ethernet;
      layer = is.layer;
      layers = is.layers;
      is = ap (λ (x : PacketModel). ip4_layer x.frame) now
          ∙ ip4_layer-same q.frame frame' is.layer (omega arith) (λ k low high. byte_far q.frame mac k long (omega arith) (omega arith)) (λ i. high i * 256 + (low i * 1 + 0)) is.is;
    }

-- FIVE-TUPLES

pub sent_tuple : (q : PacketModel) (mac frame ws : List ℕ) → IsRead q → length mac ≡ 6 → frame ≡ q.frame → ws ≡ with_ethernet_destination frame mac → tuple_of (with_bytes q 0 ws).frame ≡ tuple_of q.frame
unfolding sent_read destination_read
sent_tuple q mac frame ws is long same e =
    let says = ip4_layer_says q.frame is.layer is.is in
    let m = says.long in
    let o = says.there in
    let frame' = with_ethernet_destination q.frame mac in
    let whole : ws ≡ frame' = e ∙ ap (λ f. with_ethernet_destination f mac) same in
    let size = ap length whole in
    let both = length-append mac (drop 6 q.frame) in
    let rest = length-drop 6 q.frame in
    let now : with_bytes q 0 ws ≡ with_frame q frame' = whole_with_bytes q ws (omega arith) ∙ ap (with_frame q) whole in
    let behind : drop 14 frame' ≡ drop 14 q.frame = sym (drop-drop 8 6 frame') ∙ (ap (drop 8) (drop_at mac (drop 6 q.frame) 6 long) ∙ drop-drop 8 6 q.frame) in
    same_tuple q.frame (with_bytes q 0 ws).frame is.layer is.is (sent_read q mac frame ws is long same e).is (frame_ends q.frame (with_bytes q 0 ws).frame is.layer says (ap (λ (x : PacketModel). drop 14 x.frame) now ∙ behind))

pub from_tuple : (q : PacketModel) (mac frame ws : List ℕ) → IsRead q → length mac ≡ 6 → frame ≡ q.frame → ws ≡ with_ethernet_source frame mac → tuple_of (with_bytes q 0 ws).frame ≡ tuple_of q.frame
unfolding from_read
from_tuple q mac frame ws is long same e =
    let says = ip4_layer_says q.frame is.layer is.is in
    let m = says.long in
    let o = says.there in
    let frame' = with_ethernet_source q.frame mac in
    let whole : ws ≡ frame' = e ∙ ap (λ f. with_ethernet_source f mac) same in
    let size = ap length whole in
    let front : length (take 6 q.frame) ≡ 6 = length-take-le 6 q.frame (omega arith) in
    let outer = length-append (take 6 q.frame) (mac ++ drop 12 q.frame) in
    let inner = length-append mac (drop 12 q.frame) in
    let first = length-append (take 6 q.frame) mac in
    let rest = length-drop 12 q.frame in
    let now : with_bytes q 0 ws ≡ with_frame q frame' = whole_with_bytes q ws (omega arith) ∙ ap (with_frame q) whole in
    let split : frame' ≡ (take 6 q.frame ++ mac) ++ drop 12 q.frame = sym (append_assoc (take 6 q.frame) mac (drop 12 q.frame)) in
    let far : drop 12 frame' ≡ drop 12 q.frame = ap (drop 12) split ∙ drop_at (take 6 q.frame ++ mac) (drop 12 q.frame) 12 (omega arith) in
    let behind : drop 14 frame' ≡ drop 14 q.frame = sym (drop-drop 2 12 frame') ∙ (ap (drop 2) far ∙ drop-drop 2 12 q.frame) in
    same_tuple q.frame (with_bytes q 0 ws).frame is.layer is.is (from_read q mac frame ws is long same e).is (frame_ends q.frame (with_bytes q 0 ws).frame is.layer says (ap (λ (x : PacketModel). drop 14 x.frame) now ∙ behind))
