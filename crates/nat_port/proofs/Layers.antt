-- A translation leaves the IPv4 layer of a frame where it is.
use Rattle.std.proofs.Common.{◌≡◌, ℕ, ◌+◌, ◌-◌, ◌*◌, ◌<◌, ◌≤◌, List, ◌++◌, length, take, drop, slice_index, Option, Some, None, refl, ap, sym, ◌∙◌, arith, length-append, length-drop, length-take-le, length-take}
use Rattle.std.proofs.lemmas.List.{take_at, get_or-drop}
use Rattle.brick_spec.specs.AddressTranslation.{with_tcp_source_end, with_tcp_destination_end, with_udp_source_end, with_udp_destination_end, transport_edited, with_source_end, with_source_end_in, with_destination_end, with_destination_end_in, where_ip4, translated_frame}
use Rattle.brick_spec.specs.Checksum.{adjusted}
use Rattle.brick_spec.specs.Edit.{with_header, edited_at, ip4_edited, with_source, with_destination, with_tcp_address, with_udp_address, readdressed, udp_readdressed, udp_adjusted}
use Rattle.brick_spec.specs.Flow.{Direction, Forward, Reversed, Ends}
use Rattle.brick_spec.specs.FlowClass.{End, NatPlan}
use Rattle.brick_spec.specs.Header.{word_at, with_word, high_word, low_word}
use Rattle.brick_spec.specs.Layer.{Layer, header_in, payload_in, ip4_layer, tcp_layer_in, udp_layer_in, has_tcp, has_udp, tcp_header_bytes, tcp_extent, udp_extent, source_of, destination_of}
use Rattle.brick_spec.proofs.Words.{length-with_word}
use Rattle.eth_ip.proofs.FrameLayers.{ip4_layer_says}
use Rattle.tcp_udp.proofs.Addresses.{length-ip4_edited, byte-edited}
use Rattle.tcp_udp.proofs.Edits.{ip4_layer-rewritten, outer_edit}
use Rattle.tcp_udp.proofs.Frames.{given_if}
use Rattle.tcp_udp.specs.LayerLaws.{has_tcp_says, has_udp_says}

-- LENGTHS

-- an edit that keeps the length of headers of at least so many bytes
abbrev KeepsLength : ℕ → (List ℕ → List ℕ) → Type 0
KeepsLength least edit = (h : List ℕ) → least ≤ length h → length (edit h) ≡ length h

-- a word, and then a checksum
two_words : (h : List ℕ) (at v c w : ℕ) → at + 2 ≤ length h → c + 2 ≤ length h → length (with_word (with_word h at v) c w) ≡ length h
two_words h at v c w a b = let first = length-with_word h at v a in length-with_word (with_word h at v) c w (omega arith) ∙ first

tcp_keeps : (at old a w : ℕ) → at ≤ 2 → KeepsLength 20 (λ h. with_word (with_word (with_tcp_address h old a) at w) 16 (adjusted (word_at (with_tcp_address h old a) 16) (word_at (with_tcp_address h old a) at) w))
tcp_keeps at old a w small h long =
    let g = with_tcp_address h old a in
    let first : length g ≡ length h = length-with_word h 16 (readdressed (word_at h 16) old a) (omega arith) in
    two_words g at w 16 (adjusted (word_at g 16) (word_at g at) w) (omega arith) (omega arith) ∙ first

udp_keeps : (at old a w : ℕ) → at ≤ 2 → KeepsLength 8 (λ h. with_word (with_word (with_udp_address h old a) at w) 6 (udp_adjusted (word_at (with_udp_address h old a) 6) (word_at (with_udp_address h old a) at) w))
udp_keeps at old a w small h long =
    let g = with_udp_address h old a in
    let first : length g ≡ length h = length-with_word h 6 (udp_readdressed (word_at h 6) old a) (omega arith) in
    two_words g at w 6 (udp_adjusted (word_at g 6) (word_at g at) w) (omega arith) (omega arith) ∙ first

-- THE IPV4 HEADER with another address: its length, its first byte and its total length stay

record IsFrontSame (h h' : List ℕ) : Type 0 where
  long : length h' ≡ length h
  bytes : (k : ℕ) → k < 10 → slice_index h' k ≡ slice_index h k

two_edits : (h : List ℕ) (at v w : ℕ) → 12 ≤ at → at + 4 ≤ length h → IsFrontSame h (ip4_edited (ip4_edited h at v) (at + 2) w)
two_edits h at v w behind long =
    let first = length-ip4_edited h at v (omega arith) (omega arith) in
    record {
      long = length-ip4_edited (ip4_edited h at v) (at + 2) w (omega arith) (omega arith) ∙ first;
      bytes = λ k small. byte-edited (ip4_edited h at v) (at + 2) w k (omega arith) (omega arith) (omega arith) small ∙ byte-edited h at v k (omega arith) (omega arith) (omega arith) small;
    }

word_stays : (h h' : List ℕ) → IsFrontSame h h' → word_at h' 2 ≡ word_at h 2
word_stays h h' is =
    let high = get_or-drop 2 h' 0 0 ∙ (is.bytes 2 (omega arith) ∙ sym (get_or-drop 2 h 0 0)) in
    let low = get_or-drop 2 h' 1 0 ∙ (is.bytes 3 (omega arith) ∙ sym (get_or-drop 2 h 1 0)) in
    λ i. high i * 256 + (low i * 1 + 0)

-- FRAMES

-- other bytes for a header that stands right behind the IPv4 header
inner_stays : (frame ws : List ℕ) (l t : Layer) → ip4_layer frame ≡ Some l → t.start ≡ l.middle → t.start ≤ t.middle → t.middle ≤ length frame → length ws ≡ length (header_in frame t) → ip4_layer (with_header frame t ws) ≡ Some l
inner_stays frame ws l t h behind ordered within same =
    let says = ip4_layer_says frame l h in
    let there = says.there in
    let front : length (take t.start frame) ≡ t.start = length-take-le t.start frame (omega arith) in
    let whole = length-append (take t.start frame) (ws ++ drop t.middle frame) in
    let rest = length-append ws (drop t.middle frame) in
    let tail = length-drop t.middle frame in
    let room = length-drop t.start frame in
    let size = length-take-le (t.middle - t.start) (drop t.start frame) (omega arith) in
    let before : take t.start (with_header frame t ws) ≡ take t.start frame = take_at (take t.start frame) (ws ++ drop t.middle frame) t.start front in
    ip4_layer-rewritten frame (with_header frame t ws) l (record { before = ap (λ n. take n (with_header frame t ws)) (sym behind) ∙ (before ∙ ap (λ n. take n frame) behind); long = omega arith }) h

-- where a transport header stands
record IsBehind (frame : List ℕ) (l t : Layer) (least : ℕ) : Type 0 where
  starts : t.start ≡ l.middle
  long : t.start + least ≤ t.middle
  within : t.middle ≤ length frame

tcp_behind : (frame : List ℕ) (l t : Layer) → ip4_layer frame ≡ Some l → tcp_layer_in frame l ≡ Some t → IsBehind frame l t 20
tcp_behind frame l t h k =
    let P = payload_in frame l in
    let place : ℕ → Layer = λ n. record { start = l.middle; middle = l.middle + n; end = l.middle + tcp_extent (take n P) (length P) } in
    let is = given_if (has_tcp (header_in frame l) P) place (tcp_header_bytes P) t k in
    let says = has_tcp_says (header_in frame l) P is.0 in
    let long = says.long in
    let there = says.there in
    let m = (ip4_layer_says frame l h).there in
    let size = length-take (l.end - l.middle) (drop l.middle frame) in
    let room = length-drop l.middle frame in
    let start = ap (λ (x : Layer). x.start) is.1 in
    let middle = ap (λ (x : Layer). x.middle) is.1 in
    record { starts = sym start; long = omega arith; within = omega arith }

udp_behind : (frame : List ℕ) (l t : Layer) → ip4_layer frame ≡ Some l → udp_layer_in frame l ≡ Some t → IsBehind frame l t 8
udp_behind frame l t h k =
    let P = payload_in frame l in
    let place : ℕ → Layer = λ n. record { start = l.middle; middle = l.middle + n; end = l.middle + udp_extent (take n P) (length P) } in
    let is = given_if (has_udp (header_in frame l) P) place 8 t k in
    let least = (has_udp_says (header_in frame l) P is.0).least in
    let m = (ip4_layer_says frame l h).there in
    let size = length-take (l.end - l.middle) (drop l.middle frame) in
    let room = length-drop l.middle frame in
    let start = ap (λ (x : Layer). x.start) is.1 in
    let middle = ap (λ (x : Layer). x.middle) is.1 in
    record { starts = sym start; long = omega arith; within = omega arith }

-- an edit of the IPv4 header, and then one of the transport header behind it
both_stay : (ip4 edit : List ℕ → List ℕ) (least : ℕ) (frame : List ℕ) (l t : Layer) → ip4_layer frame ≡ Some l → IsFrontSame (header_in frame l) (ip4 (header_in frame l)) → KeepsLength least edit → IsBehind frame l t least
    → ip4_layer (edited_at edit (edited_at ip4 frame l) t) ≡ Some l
both_stay ip4 edit least frame l t h front keeps is =
    let head = ip4 (header_in frame l) in
    let outer = outer_edit frame l head h front.long (front.bytes 0 (omega arith)) (word_stays (header_in frame l) head front) in
    let frame' = edited_at ip4 frame l in
    let len = outer.long in
    let starts = is.starts in
    let long = is.long in
    let within = is.within in
    let room = length-drop t.start frame' in
    let size : length (header_in frame' t) ≡ t.middle - t.start = length-take-le (t.middle - t.start) (drop t.start frame') (omega arith) in
    inner_stays frame' (edit (header_in frame' t)) l t outer.layer starts (omega arith) (omega arith) (keeps (header_in frame' t) (omega arith))

transport_stays : (ip4 tcp udp : List ℕ → List ℕ) (frame : List ℕ) (l : Layer) → ip4_layer frame ≡ Some l → IsFrontSame (header_in frame l) (ip4 (header_in frame l)) → KeepsLength 20 tcp → KeepsLength 8 udp
    → ip4_layer (transport_edited ip4 tcp udp frame l (tcp_layer_in frame l) (udp_layer_in frame l)) ≡ Some l
transport_stays ip4 tcp udp frame l h front keeps keeps' = at (tcp_layer_in frame l) (udp_layer_in frame l) (λ t e. tcp_behind frame l t h e) (λ t e. udp_behind frame l t h e) where
  at : (o u : Option Layer) → ((t : Layer) → o ≡ Some t → IsBehind frame l t 20) → ((t : Layer) → u ≡ Some t → IsBehind frame l t 8) → ip4_layer (transport_edited ip4 tcp udp frame l o u) ≡ Some l
  at (Some t) u has has' = both_stay ip4 tcp 20 frame l t h front keeps (has t refl)
  at None (Some t) has has' = both_stay ip4 udp 8 frame l t h front keeps' (has' t refl)
  at None None has has' = h

long_header : (frame : List ℕ) (l : Layer) → ip4_layer frame ≡ Some l → 20 ≤ length (header_in frame l)
long_header frame l h =
    let says = ip4_layer_says frame l h in
    let s = says.start in
    let m = says.there in
    let o = says.long in
    let room = length-drop l.start frame in
    let size = length-take-le (l.middle - l.start) (drop l.start frame) (omega arith) in
    omega arith

source_stays : (e : End) (frame : List ℕ) (l : Layer) → ip4_layer frame ≡ Some l → ip4_layer (with_source_end e frame) ≡ Some l
source_stays e frame l h =
    let H = header_in frame l in
    let long = long_header frame l h in
    ap (λ (o : Option Layer). ip4_layer (where_ip4 (with_source_end_in e frame) frame o)) h
    ∙ transport_stays (λ h. with_source h e.address) (with_tcp_source_end (source_of H) e) (with_udp_source_end (source_of H) e) frame l h (two_edits H 12 (high_word e.address) (low_word e.address) (omega arith) (omega arith))
    (tcp_keeps 0 (source_of H) e.address e.port (omega arith)) (udp_keeps 0 (source_of H) e.address e.port (omega arith))

destination_stays : (e : End) (frame : List ℕ) (l : Layer) → ip4_layer frame ≡ Some l → ip4_layer (with_destination_end e frame) ≡ Some l
destination_stays e frame l h =
    let H = header_in frame l in
    let long = long_header frame l h in
    ap (λ (o : Option Layer). ip4_layer (where_ip4 (with_destination_end_in e frame) frame o)) h
    ∙ transport_stays (λ h. with_destination h e.address) (with_tcp_destination_end (destination_of H) e) (with_udp_destination_end (destination_of H) e) frame l h (two_edits H 16 (high_word e.address) (low_word e.address) (omega arith) (omega arith))
    (tcp_keeps 2 (destination_of H) e.address e.port (omega arith)) (udp_keeps 2 (destination_of H) e.address e.port (omega arith))

pub translated_stays : (plan : NatPlan) (first : Ends) (rank : ℕ) (dir : Direction) (frame : List ℕ) (l : Layer) → ip4_layer frame ≡ Some l → ip4_layer (translated_frame plan first rank dir frame) ≡ Some l
translated_stays plan first rank Forward frame l h = source_stays (record { address = plan.outside; port = plan.base + rank }) frame l h
translated_stays plan first rank Reversed frame l h = destination_stays (record { address = first.src; port = first.sport }) frame l h

-- a frame without the IPv4 layer stays as it is
pub translated_other : (plan : NatPlan) (first : Ends) (rank : ℕ) (dir : Direction) (frame : List ℕ) → ip4_layer frame ≡ None → translated_frame plan first rank dir frame ≡ frame
translated_other plan first rank Forward frame h = ap (where_ip4 (with_source_end_in (record { address = plan.outside; port = plan.base + rank }) frame) frame) h
translated_other plan first rank Reversed frame h = ap (where_ip4 (with_destination_end_in (record { address = first.src; port = first.sport }) frame) frame) h
