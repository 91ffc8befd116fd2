-- Frames with the same five-tuple.
use Rattle.std.proofs.Common.{◌≡◌, ℕ, ◌+◌, ◌-◌, ◌*◌, ◌/◌, ◌%◌, List, ◌++◌, length, take, drop, slice_index, nat_le, nat_eq, Bool, Option, Some, None, if◌then◌else◌, refl, ap, sym, ◌∙◌, arith, length-take-le, length-drop, length-append, append_assoc}
use Rattle.std.specs.Prelude.{option_map, ◌&&◌, not}
use Rattle.std.proofs.lemmas.List.{take_at, drop_at, drop-drop, get_or-drop}
use Rattle.std.specs.Option.{option_or}
use Rattle.std.proofs.lemmas.Option.{same_Some}
use Rattle.brick_spec.specs.Edit.{with_header}
use Rattle.brick_spec.specs.Header.{word_at, number_at}
use Rattle.brick_spec.specs.Layer.{Layer, header_in, payload_in, ip4_layer, carries, protocol_of, source_of, destination_of, tcp_header_bytes, tcp_extent, udp_total, udp_extent}
use Rattle.eth_ip.proofs.FrameLayers.{HasIp4Layer}
use Rattle.brick_spec.specs.Tuple.{Tuple, ports_at, transport_layer_in, tuple_in, tuple_of}

-- the first frame and the second have the same fields of the IPv4 header that a five-tuple is made of, and the same bytes behind it
pub record HasSameEnds (frame frame' : List ℕ) (l : Layer) : Type 0 where
  pub long : length (header_in frame' l) ≡ length (header_in frame l)
  pub fragment : word_at (header_in frame' l) 6 ≡ word_at (header_in frame l) 6
  pub proto : protocol_of (header_in frame' l) ≡ protocol_of (header_in frame l)
  pub src : source_of (header_in frame' l) ≡ source_of (header_in frame l)
  pub dst : destination_of (header_in frame' l) ≡ destination_of (header_in frame l)
  pub behind : drop l.middle frame' ≡ drop l.middle frame

-- the layer behind a header that ends at m, by whether it carries TCP or UDP, and by its payload
abbrev transport_by : Bool → Bool → List ℕ → ℕ → Option Layer
transport_by tcp udp rest m =
    option_or (option_map (λ n. record { start = m; middle = m + n; end = m + tcp_extent (take n rest) (length rest) })
    (if tcp && (nat_le 20 (length rest) && (nat_le 20 (tcp_header_bytes rest) && nat_le (tcp_header_bytes rest) (length rest))) then Some (tcp_header_bytes rest) else None))
    (option_map (λ n. record { start = m; middle = m + n; end = m + udp_extent (take n rest) (length rest) })
    (if udp && (nat_le 8 (length rest) && nat_le 8 (udp_total rest)) then Some 8 else None))

-- it starts there
start_of : (a b : Option ℕ) (g k : ℕ → Layer) (m : ℕ) (t : Layer) → ((n : ℕ) → (g n).start ≡ m) → ((n : ℕ) → (k n).start ≡ m) → option_or (option_map g a) (option_map k b) ≡ Some t → t.start ≡ m
start_of (Some n) b g k m t gs ks h = sym (ap (λ (x : Layer). x.start) (same_Some (g n) t h)) ∙ gs n
start_of None (Some n) g k m t gs ks h = sym (ap (λ (x : Layer). x.start) (same_Some (k n) t h)) ∙ ks n
start_of None None g k m t gs ks h = cc

transport_starts : (tcp udp : Bool) (rest : List ℕ) (m : ℕ) (t : Layer) → transport_by tcp udp rest m ≡ Some t → t.start ≡ m
transport_starts tcp udp rest m t h =
    start_of (if tcp && (nat_le 20 (length rest) && (nat_le 20 (tcp_header_bytes rest) && nat_le (tcp_header_bytes rest) (length rest))) then Some (tcp_header_bytes rest) else None)
    (if udp && (nat_le 8 (length rest) && nat_le 8 (udp_total rest)) then Some 8 else None)
    (λ n. record { start = m; middle = m + n; end = m + tcp_extent (take n rest) (length rest) }) (λ n. record { start = m; middle = m + n; end = m + udp_extent (take n rest) (length rest) }) m t (λ n. refl) (λ n. refl) h

-- the ports of a layer that starts where the frames are the same
same_ports : (frame frame' : List ℕ) (m : ℕ) → drop m frame' ≡ drop m frame → (o : Option Layer) → ((t : Layer) → o ≡ Some t → t.start ≡ m) → option_map (ports_at frame') o ≡ option_map (ports_at frame) o
same_ports frame frame' m behind None starts = refl
same_ports frame frame' m behind (Some t) starts =
    let at : drop t.start frame' ≡ drop t.start frame = ap (λ k. drop k frame') (starts t refl) ∙ (behind ∙ sym (ap (λ k. drop k frame) (starts t refl))) in
    ap (λ xs. Some (word_at (take (t.middle - t.start) xs) 0, word_at (take (t.middle - t.start) xs) 2)) at

pub same_tuple : (frame frame' : List ℕ) (l : Layer) → ip4_layer frame ≡ Some l → ip4_layer frame' ≡ Some l → HasSameEnds frame frame' l → tuple_of frame' ≡ tuple_of frame
same_tuple frame frame' l is is' same =
    let long = same.long in
    let proto = same.proto in
    let fragment = same.fragment in
    let rest : payload_in frame' l ≡ payload_in frame l = ap (take (l.end - l.middle)) same.behind in
    let holds : (n : ℕ) → carries n (header_in frame' l) ≡ carries n (header_in frame l) = λ n i. nat_le 20 (long i) && (nat_eq (proto i) n && (nat_eq (fragment i % 8192) 0 && not (nat_eq (fragment i / 8192 % 2) 1))) in
    let layer : transport_layer_in frame' l ≡ transport_layer_in frame l = λ i. transport_by (holds 6 i) (holds 17 i) (rest i) l.middle in
    let ports : option_map (ports_at frame') (transport_layer_in frame' l) ≡ option_map (ports_at frame) (transport_layer_in frame l) =
    ap (option_map (ports_at frame')) layer
    ∙ same_ports frame frame' l.middle same.behind (transport_layer_in frame l) (λ t. transport_starts (carries 6 (header_in frame l)) (carries 17 (header_in frame l)) (payload_in frame l) l.middle t) in
    let tuple : tuple_in frame' l ≡ tuple_in frame l = λ i. record { proto = same.proto i; src = same.src i; dst = same.dst i; ports = ports i } in
    ap (option_map (tuple_in frame')) is' ∙ (ap (λ (t : Tuple). Some t) tuple ∙ sym (ap (option_map (tuple_in frame)) is))

-- EDITS

-- another header of the same length
pub header_ends : (frame : List ℕ) (l : Layer) (ws : List ℕ) → HasIp4Layer frame l → length ws ≡ length (header_in frame l) → word_at ws 6 ≡ word_at (header_in frame l) 6 → protocol_of ws ≡ protocol_of (header_in frame l)
    → source_of ws ≡ source_of (header_in frame l) → destination_of ws ≡ destination_of (header_in frame l) → HasSameEnds frame (with_header frame l ws) l
header_ends frame l ws says same fragment proto src dst =
    let s = l.start in
    let m = l.middle in
    let start = says.start in
    let least = says.long in
    let there = says.there in
    let behind = drop m frame in
    let frame' = with_header frame l ws in
    let front : length (take s frame) ≡ s = length-take-le s frame (omega arith) in
    let room = length-drop s frame in
    let size : length (header_in frame l) ≡ m - s = length-take-le (m - s) (drop s frame) (omega arith) in
    let both = length-append (take s frame) ws in
    let end : length (take s frame ++ ws) ≡ m = omega arith in
    let split : frame' ≡ (take s frame ++ ws) ++ behind = sym (append_assoc (take s frame) ws behind) in
    let is : header_in frame' l ≡ ws = ap (take (m - s)) (drop_at (take s frame) (ws ++ behind) s front) ∙ take_at ws behind (m - s) (same ∙ size) in
    record {
      long = ap length is ∙ same;
      fragment = ap (λ xs. word_at xs 6) is ∙ fragment;
      proto = ap protocol_of is ∙ proto;
      src = ap source_of is ∙ src;
      dst = ap destination_of is ∙ dst;
      behind = ap (drop m) split ∙ drop_at (take s frame ++ ws) behind m end;
    }

-- a number behind the first words
pub number_far : (xs ys : List ℕ) (k : ℕ) → ((j : ℕ) → slice_index ys (k + j) ≡ slice_index xs (k + j)) → number_at ys k ≡ number_at xs k
number_far xs ys k same =
    let b : (j : ℕ) → slice_index (drop k ys) j ≡ slice_index (drop k xs) j = λ j. get_or-drop k ys j 0 ∙ (same j ∙ sym (get_or-drop k xs j 0)) in
    λ i. b 0 i * 16777216 + (b 1 i * 65536 + (b 2 i * 256 + (b 3 i * 1 + 0)))

-- another Ethernet header
pub frame_ends : (frame frame' : List ℕ) (l : Layer) → HasIp4Layer frame l → drop 14 frame' ≡ drop 14 frame → HasSameEnds frame frame' l
frame_ends frame frame' l says same =
    let m = l.middle in
    let least = says.long in
    let at : drop l.start frame' ≡ drop l.start frame = ap (λ k. drop k frame') says.start ∙ (same ∙ sym (ap (λ k. drop k frame) says.start)) in
    let h : header_in frame' l ≡ header_in frame l = ap (take (m - l.start)) at in
    let place : 14 + (m - 14) ≡ m = omega arith in
    let far : (xs : List ℕ) → drop (m - 14) (drop 14 xs) ≡ drop m xs = λ xs. drop-drop (m - 14) 14 xs ∙ ap (λ k. drop k xs) place in
    record {
      long = ap length h;
      fragment = ap (λ xs. word_at xs 6) h;
      proto = ap protocol_of h;
      src = ap source_of h;
      dst = ap destination_of h;
      behind = sym (far frame') ∙ (ap (drop (m - 14)) same ∙ far frame);
    }
