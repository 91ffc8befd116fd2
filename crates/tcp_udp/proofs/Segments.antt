-- The TCP and the UDP layer in an IPv4 payload.
use Rattle.std.proofs.Common.{◌≡◌, ℕ, ◌+◌, ◌-◌, ◌≤◌, List, length, take, drop, slice_range, true, false, Option, Some, None, if◌then◌else◌, min, nat_le, ap, sym, ◌∙◌, arith, length-take, length-take-le}
use Rattle.std.specs.Prelude.{option_map}
use Rattle.std.proofs.lemmas.Bool.{cond-true, le-leb}
use Rattle.std.specs.Option.{option_or}
use Rattle.std.proofs.lemmas.List.{take-take, take_min}
use Rattle.brick_spec.specs.Header.{word_at}
use Rattle.brick_spec.specs.Layer.{Layer, header_in, payload_in, segment_in, tcp_header_bytes, has_tcp, tcp_layer_in, udp_total, has_udp, udp_extent, udp_layer_in, source_port, destination_port}
use Rattle.brick_spec.specs.Tuple.{ports_at, transport_layer_in}
use Rattle.eth_ip.specs.LayerLaws.{word_at-take}
use Rattle.eth_ip.proofs.FrameLayers.{word_at-drop}
use Rattle.tcp_udp.specs.LayerLaws.{has_tcp_says, has_udp_says}

-- a word of a part of a frame
pub word_at-range : (frame : List ℕ) (i j at : ℕ) → at + 2 ≤ j - i → word_at (slice_range frame i j) at ≡ word_at frame (i + at)
word_at-range frame i j at h = word_at-take (drop i frame) (j - i) at h ∙ word_at-drop frame i at

-- the payload is no longer than its place
pub payload_room : (frame : List ℕ) (l : Layer) → length (payload_in frame l) ≤ l.end - l.middle
payload_room frame l = let e = length-take (l.end - l.middle) (drop l.middle frame) in omega arith

-- a word of the payload
pub payload_word : (frame : List ℕ) (l : Layer) (at : ℕ) → at + 2 ≤ length (payload_in frame l) → word_at (payload_in frame l) at ≡ word_at frame (l.middle + at)
payload_word frame l at h = let room = payload_room frame l in word_at-range frame l.middle l.end at (omega arith)

-- a word of a header in the payload
pub inner_word : (frame : List ℕ) (l : Layer) (n at : ℕ) → at + 2 ≤ n → at + 2 ≤ length (payload_in frame l) → word_at (slice_range frame l.middle (l.middle + n)) at ≡ word_at (payload_in frame l) at
inner_word frame l n at h k = word_at-range frame l.middle (l.middle + n) at (omega arith) ∙ sym (payload_word frame l at k)

-- the first m bytes of the payload, by the frame
pub inner_bytes : (frame : List ℕ) (l : Layer) (m : ℕ) → m ≤ length (payload_in frame l) → slice_range frame l.middle (l.middle + m) ≡ take m (payload_in frame l)
inner_bytes frame l m h =
    let room = payload_room frame l in
    let size : l.middle + m - l.middle ≡ m = omega arith in
    ap (λ k. take k (drop l.middle frame)) size ∙ sym (take-take m (l.end - l.middle) (drop l.middle frame) (omega arith))

-- the whole payload, by its length
pub whole_payload : (frame : List ℕ) (l : Layer) → slice_range frame l.middle (l.middle + length (payload_in frame l)) ≡ payload_in frame l
whole_payload frame l =
    let size : l.middle + length (payload_in frame l) - l.middle ≡ length (payload_in frame l) = omega arith in
    ap (λ k. take k (drop l.middle frame)) (size ∙ length-take (l.end - l.middle) (drop l.middle frame)) ∙ take_min (l.end - l.middle) (drop l.middle frame)

-- TCP

-- the TCP layer in the payload
abbrev pub tcp_at : List ℕ → Layer → Layer
tcp_at frame l = record { start = l.middle; middle = l.middle + tcp_header_bytes (payload_in frame l); end = l.middle + length (payload_in frame l) }

pub tcp_there : (frame : List ℕ) (l : Layer) → has_tcp (header_in frame l) (payload_in frame l) ≡ true → tcp_layer_in frame l ≡ Some (tcp_at frame l)
tcp_there frame l h =
    let place : ℕ → Layer = λ n. record { start = l.middle; middle = l.middle + n; end = l.middle + length (payload_in frame l) } in
    ap (λ b. option_map place (if b then Some (tcp_header_bytes (payload_in frame l)) else None)) h

pub tcp_absent : (frame : List ℕ) (l : Layer) → has_tcp (header_in frame l) (payload_in frame l) ≡ false → tcp_layer_in frame l ≡ None
tcp_absent frame l h =
    let place : ℕ → Layer = λ n. record { start = l.middle; middle = l.middle + n; end = l.middle + length (payload_in frame l) } in
    ap (λ b. option_map place (if b then Some (tcp_header_bytes (payload_in frame l)) else None)) h

-- UDP

-- the UDP layer in the payload
abbrev pub udp_at : List ℕ → Layer → Layer
udp_at frame l = record { start = l.middle; middle = l.middle + 8; end = l.middle + udp_extent (take 8 (payload_in frame l)) (length (payload_in frame l)) }

pub udp_there : (frame : List ℕ) (l : Layer) → has_udp (header_in frame l) (payload_in frame l) ≡ true → udp_layer_in frame l ≡ Some (udp_at frame l)
udp_there frame l h =
    let place : ℕ → Layer = λ n. record { start = l.middle; middle = l.middle + n; end = l.middle + udp_extent (take n (payload_in frame l)) (length (payload_in frame l)) } in
    ap (λ b. option_map place (if b then Some 8 else None)) h

pub udp_absent : (frame : List ℕ) (l : Layer) → has_udp (header_in frame l) (payload_in frame l) ≡ false → udp_layer_in frame l ≡ None
udp_absent frame l h =
    let place : ℕ → Layer = λ n. record { start = l.middle; middle = l.middle + n; end = l.middle + udp_extent (take n (payload_in frame l)) (length (payload_in frame l)) } in
    ap (λ b. option_map place (if b then Some 8 else None)) h

-- where a UDP payload ends
pub udp_end : (rest : List ℕ) → 8 ≤ length rest → 8 ≤ udp_total rest → udp_extent (take 8 rest) (length rest) ≡ min (udp_total rest) (length rest)
udp_end rest long total =
    let cut : length (take 8 rest) ≡ 8 = length-take-le 8 rest long in
    let word : udp_total (take 8 rest) ≡ udp_total rest = word_at-take rest 8 4 (omega arith) in
    let given : (if nat_le 6 (length (take 8 rest)) then udp_total (take 8 rest) else 0) ≡ udp_total (take 8 rest) = cond-true _ _ 0 (le-leb 6 (length (take 8 rest)) (omega arith)) in
    omega arith

-- the header and the payload of UDP, where the UDP length is within the IPv4 payload
pub udp_segment : (frame : List ℕ) (l : Layer) → has_udp (header_in frame l) (payload_in frame l) ≡ true → udp_total (payload_in frame l) ≤ length (payload_in frame l)
    → segment_in frame (udp_at frame l) ≡ take (udp_total (payload_in frame l)) (payload_in frame l)
udp_segment frame l h within =
    let says = has_udp_says (header_in frame l) (payload_in frame l) h in
    let end = udp_end (payload_in frame l) says.least says.total in
    let size : udp_extent (take 8 (payload_in frame l)) (length (payload_in frame l)) ≡ udp_total (payload_in frame l) = omega arith in
    ap (λ k. slice_range frame l.middle (l.middle + k)) size ∙ inner_bytes frame l (udp_total (payload_in frame l)) within

-- PORTS

pub tcp_ports : (frame : List ℕ) (l : Layer) → has_tcp (header_in frame l) (payload_in frame l) ≡ true
    → option_map (ports_at frame) (transport_layer_in frame l) ≡ Some (source_port (payload_in frame l), destination_port (payload_in frame l))
tcp_ports frame l h =
    let says = has_tcp_says (header_in frame l) (payload_in frame l) h in
    let long = says.long in
    let least = says.least in
    let n = tcp_header_bytes (payload_in frame l) in
    let source = inner_word frame l n 0 (omega arith) (omega arith) in
    let destination = inner_word frame l n 2 (omega arith) (omega arith) in
    ap (λ (o : Option Layer). option_map (ports_at frame) (option_or o (udp_layer_in frame l))) (tcp_there frame l h) ∙ (λ i. Some (source i, destination i))

pub udp_ports : (frame : List ℕ) (l : Layer) → has_tcp (header_in frame l) (payload_in frame l) ≡ false → has_udp (header_in frame l) (payload_in frame l) ≡ true
    → option_map (ports_at frame) (transport_layer_in frame l) ≡ Some (source_port (payload_in frame l), destination_port (payload_in frame l))
udp_ports frame l absent h =
    let says = has_udp_says (header_in frame l) (payload_in frame l) h in
    let least = says.least in
    let source = inner_word frame l 8 0 (omega arith) (omega arith) in
    let destination = inner_word frame l 8 2 (omega arith) (omega arith) in
    ap (λ (o : Option Layer). option_map (ports_at frame) (option_or o (udp_layer_in frame l))) (tcp_absent frame l absent)
    ∙ (ap (λ (o : Option Layer). option_map (ports_at frame) o) (udp_there frame l h) ∙ (λ i. Some (source i, destination i)))
