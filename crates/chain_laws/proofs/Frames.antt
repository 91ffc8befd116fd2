-- Edits leave the length of a frame.
use Rattle.std.proofs.Common.{◌≡◌, ℕ, ◌+◌, ◌-◌, ◌≤◌, Bool, true, false, List, ◌++◌, length, take, drop, if◌then◌else◌, Option, Some, None, refl, ap, ◌∙◌, arith, length-append, length-drop, length-take}
use Rattle.std.specs.Prelude.{option_map}
use Rattle.brick_spec.specs.AddressTranslation.{with_tcp_source_end, with_tcp_destination_end, with_udp_source_end, with_udp_destination_end, transport_edited, with_source_end, with_source_end_in, with_destination_end, with_destination_end_in, where_ip4, translated_frame}
use Rattle.brick_spec.specs.Checksum.{adjusted}
use Rattle.brick_spec.specs.Edit.{with_ethernet_destination, with_ethernet_source, with_header, edited_at, ip4_edited, with_tos, with_ttl, frame_with_ttl, with_source, with_destination, with_tcp_address, with_udp_address, readdressed, udp_readdressed, udp_adjusted}
use Rattle.brick_spec.specs.Flow.{Direction, Forward, Reversed, Ends}
use Rattle.brick_spec.specs.FlowClass.{End, NatPlan}
use Rattle.brick_spec.specs.Header.{word_at, with_word, high_word, low_word}
use Rattle.brick_spec.specs.Layer.{Layer, header_in, payload_in, ip4_layer, tcp_layer_in, udp_layer_in, has_tcp, has_udp, tcp_header_bytes, tcp_extent, udp_extent, source_of, destination_of}
use Rattle.brick_spec.specs.Tuple.{Tuple, tuple_in, tuple_of}
use Rattle.brick_spec.proofs.Words.{length-with_word}
use Rattle.eth_ip.proofs.FrameLayers.{ip4_layer_says}
use Rattle.tcp_udp.specs.LayerLaws.{has_tcp_says, has_udp_says}

-- where a layer of at least so long a header stands
record IsThere (frame : List ℕ) (t : Layer) (least : ℕ) : Type 0 where
  long : t.start + least ≤ t.middle
  within : t.middle ≤ length frame

-- an edit that leaves the length of headers of at least so many bytes
abbrev KeepsLength : ℕ → (List ℕ → List ℕ) → Type 0
KeepsLength least edit = (h : List ℕ) → least ≤ length h → length (edit h) ≡ length h

header_long : (frame : List ℕ) (t : Layer) → t.middle ≤ length frame → length (header_in frame t) ≡ t.middle - t.start
header_long frame t h = omega (arith, h, length-take (t.middle - t.start) (drop t.start frame), length-drop t.start frame)

edited_long : (edit : List ℕ → List ℕ) (frame : List ℕ) (t : Layer) (least : ℕ) → IsThere frame t least → KeepsLength least edit → length (edited_at edit frame t) ≡ length frame
edited_long edit frame t least is keeps =
    let head = header_in frame t in
    let long = is.long in
    let within = is.within in
    let size = header_long frame t within in
    let kept : length (edit head) ≡ length head = keeps head (omega (arith, size, long)) in
    omega (
      arith,
      size,
      kept,
      long,
      within,
      length-append (take t.start frame) (edit head ++ drop t.middle frame),
      length-append (edit head) (drop t.middle frame),
      length-take t.start frame,
      length-drop t.middle frame,
    )

-- LAYERS

ip4_there : (frame : List ℕ) (l : Layer) → ip4_layer frame ≡ Some l → IsThere frame l 20
ip4_there frame l h = let says = ip4_layer_says frame l h in record { long = omega (arith, says.start, says.long); within = says.there }

pub ip4_long : (frame : List ℕ) (l : Layer) → ip4_layer frame ≡ Some l → 34 ≤ length frame
ip4_long frame l h = let says = ip4_layer_says frame l h in omega (arith, says.long, says.there)

pub tuple_long : (frame : List ℕ) (t : Tuple) → tuple_of frame ≡ Some t → 34 ≤ length frame
tuple_long frame t h = by (ip4_layer frame) refl h where
  by : (o : Option Layer) → ip4_layer frame ≡ o → option_map (tuple_in frame) o ≡ Some t → 34 ≤ length frame
  by None e k = cc
  by (Some l) e k = ip4_long frame l e

given_if : (b : Bool) (place : ℕ → Layer) (n : ℕ) (t : Layer) → option_map place (if b then Some n else None) ≡ Some t → (b ≡ true) × (place n ≡ t)
given_if true place n t h = (refl, cc)
given_if false place n t h = cc

payload_room : (frame : List ℕ) (l : Layer) → length (payload_in frame l) ≤ length frame - l.middle
payload_room frame l = omega (arith, length-take (l.end - l.middle) (drop l.middle frame), length-drop l.middle frame)

tcp_there : (frame : List ℕ) (l t : Layer) → ip4_layer frame ≡ Some l → tcp_layer_in frame l ≡ Some t → IsThere frame t 20
tcp_there frame l t h k =
    let P = payload_in frame l in
    let place : ℕ → Layer = λ n. record { start = l.middle; middle = l.middle + n; end = l.middle + tcp_extent (take n P) (length P) } in
    let is = given_if (has_tcp (header_in frame l) P) place (tcp_header_bytes P) t k in
    let says = has_tcp_says (header_in frame l) P is.0 in
    let start = ap (λ (x : Layer). x.start) is.1 in
    let middle = ap (λ (x : Layer). x.middle) is.1 in
    record { long = omega (arith, start, middle, says.long); within = omega (arith, middle, says.there, payload_room frame l, (ip4_there frame l h).within) }

udp_there : (frame : List ℕ) (l t : Layer) → ip4_layer frame ≡ Some l → udp_layer_in frame l ≡ Some t → IsThere frame t 8
udp_there frame l t h k =
    let P = payload_in frame l in
    let place : ℕ → Layer = λ n. record { start = l.middle; middle = l.middle + n; end = l.middle + udp_extent (take n P) (length P) } in
    let is = given_if (has_udp (header_in frame l) P) place 8 t k in
    let says = has_udp_says (header_in frame l) P is.0 in
    let start = ap (λ (x : Layer). x.start) is.1 in
    let middle = ap (λ (x : Layer). x.middle) is.1 in
    record { long = omega (arith, start, middle); within = omega (arith, middle, says.least, payload_room frame l, (ip4_there frame l h).within) }

-- HEADERS

two_words : (h : List ℕ) (at v c w : ℕ) → at + 2 ≤ length h → c + 2 ≤ length h → length (with_word (with_word h at v) c w) ≡ length h
two_words h at v c w a b = let first = length-with_word h at v a in length-with_word (with_word h at v) c w (omega (arith, first, b)) ∙ first

ip4_keeps : (h : List ℕ) (at w : ℕ) → at ≤ 18 → 20 ≤ length h → length (ip4_edited h at w) ≡ length h
ip4_keeps h at w low long = two_words h at w 10 (adjusted (word_at h 10) (word_at h at) w) (omega (arith, low, long)) (omega (arith, long))

address_keeps : (h : List ℕ) (at v w : ℕ) → at ≤ 16 → 20 ≤ length h → length (ip4_edited (ip4_edited h at v) (at + 2) w) ≡ length h
address_keeps h at v w low long =
    let first = ip4_keeps h at v (omega (arith, low)) long in
    ip4_keeps (ip4_edited h at v) (at + 2) w (omega (arith, low)) (omega (arith, first, long)) ∙ first

tcp_keeps : (at old a w : ℕ) → at ≤ 2 → KeepsLength 20 (λ h. with_word (with_word (with_tcp_address h old a) at w) 16 (adjusted (word_at (with_tcp_address h old a) 16) (word_at (with_tcp_address h old a) at) w))
tcp_keeps at old a w small h long =
    let g = with_tcp_address h old a in
    let first : length g ≡ length h = length-with_word h 16 (readdressed (word_at h 16) old a) (omega (arith, long)) in
    two_words g at w 16 (adjusted (word_at g 16) (word_at g at) w) (omega (arith, first, small, long)) (omega (arith, first, long)) ∙ first

udp_keeps : (at old a w : ℕ) → at ≤ 2 → KeepsLength 8 (λ h. with_word (with_word (with_udp_address h old a) at w) 6 (udp_adjusted (word_at (with_udp_address h old a) 6) (word_at (with_udp_address h old a) at) w))
udp_keeps at old a w small h long =
    let g = with_udp_address h old a in
    let first : length g ≡ length h = length-with_word h 6 (udp_readdressed (word_at h 6) old a) (omega (arith, long)) in
    two_words g at w 6 (udp_adjusted (word_at g 6) (word_at g at) w) (omega (arith, first, small, long)) (omega (arith, first, long)) ∙ first

-- FRAMES

pub ttl_long : (frame : List ℕ) (l : Layer) (ttl : ℕ) → ip4_layer frame ≡ Some l → length (frame_with_ttl frame l ttl) ≡ length frame
ttl_long frame l ttl h = edited_long (λ head. with_ttl head ttl) frame l 20 (ip4_there frame l h) (λ head long. ip4_keeps head 8 _ (omega arith) long)

pub tos_long : (frame : List ℕ) (l : Layer) (tos : ℕ) → ip4_layer frame ≡ Some l → length (with_header frame l (with_tos (header_in frame l) tos)) ≡ length frame
tos_long frame l tos h = edited_long (λ head. with_tos head tos) frame l 20 (ip4_there frame l h) (λ head long. ip4_keeps head 0 _ (omega arith) long)

pub destination_long : (frame mac : List ℕ) → length mac ≡ 6 → 34 ≤ length frame → length (with_ethernet_destination frame mac) ≡ length frame
destination_long frame mac six long = omega (arith, six, long, length-append mac (drop 6 frame), length-drop 6 frame)

pub source_long : (frame mac : List ℕ) → length mac ≡ 6 → 34 ≤ length frame → length (with_ethernet_source frame mac) ≡ length frame
source_long frame mac six long = omega (arith, six, long, length-append (take 6 frame) (mac ++ drop 12 frame), length-append mac (drop 12 frame), length-take 6 frame, length-drop 12 frame)

transport_long : (ip4 tcp udp : List ℕ → List ℕ) (frame : List ℕ) (l : Layer) → ip4_layer frame ≡ Some l → KeepsLength 20 ip4 → KeepsLength 20 tcp → KeepsLength 8 udp
    → length (transport_edited ip4 tcp udp frame l (tcp_layer_in frame l) (udp_layer_in frame l)) ≡ length frame
transport_long ip4 tcp udp frame l h outer keeps keeps' = at (tcp_layer_in frame l) (udp_layer_in frame l) (λ t e. tcp_there frame l t h e) (λ t e. udp_there frame l t h e) where
  first : length (edited_at ip4 frame l) ≡ length frame
  first = edited_long ip4 frame l 20 (ip4_there frame l h) outer

  moved : (t : Layer) (least : ℕ) → IsThere frame t least → IsThere (edited_at ip4 frame l) t least
  moved t least is = record { long = is.long; within = omega (arith, is.within, first) }

  at : (o u : Option Layer) → ((t : Layer) → o ≡ Some t → IsThere frame t 20) → ((t : Layer) → u ≡ Some t → IsThere frame t 8) → length (transport_edited ip4 tcp udp frame l o u) ≡ length frame
  at (Some t) u has has' = edited_long tcp (edited_at ip4 frame l) t 20 (moved t 20 (has t refl)) keeps ∙ first
  at None (Some t) has has' = edited_long udp (edited_at ip4 frame l) t 8 (moved t 8 (has' t refl)) keeps' ∙ first
  at None None has has' = refl

where_long : (edit : Layer → List ℕ) (frame : List ℕ) → ((l : Layer) → ip4_layer frame ≡ Some l → length (edit l) ≡ length frame) → length (where_ip4 edit frame (ip4_layer frame)) ≡ length frame
where_long edit frame h = by (ip4_layer frame) refl where
  by : (o : Option Layer) → ip4_layer frame ≡ o → length (where_ip4 edit frame o) ≡ length frame
  by None e = refl
  by (Some l) e = h l e

source_end_long : (e : End) (frame : List ℕ) → length (with_source_end e frame) ≡ length frame
source_end_long e frame =
    where_long (with_source_end_in e frame) frame (
    λ l h. let old = source_of (header_in frame l) in
    transport_long (λ x. with_source x e.address) (with_tcp_source_end old e) (with_udp_source_end old e) frame l h (λ x long. address_keeps x 12 (high_word e.address) (low_word e.address) (omega arith) long)
    (tcp_keeps 0 old e.address e.port (omega arith)) (udp_keeps 0 old e.address e.port (omega arith))
    )

destination_end_long : (e : End) (frame : List ℕ) → length (with_destination_end e frame) ≡ length frame
destination_end_long e frame =
    where_long (with_destination_end_in e frame) frame (
    λ l h. let old = destination_of (header_in frame l) in
    transport_long (λ x. with_destination x e.address) (with_tcp_destination_end old e) (with_udp_destination_end old e) frame l h (λ x long. address_keeps x 16 (high_word e.address) (low_word e.address) (omega arith) long)
    (tcp_keeps 2 old e.address e.port (omega arith)) (udp_keeps 2 old e.address e.port (omega arith))
    )

pub translated_long : (plan : NatPlan) (first : Ends) (rank : ℕ) (dir : Direction) (frame : List ℕ) → length (translated_frame plan first rank dir frame) ≡ length frame
translated_long plan first rank Forward frame = source_end_long (record { address = plan.outside; port = plan.base + rank }) frame
translated_long plan first rank Reversed frame = destination_end_long (record { address = first.src; port = first.sport }) frame
