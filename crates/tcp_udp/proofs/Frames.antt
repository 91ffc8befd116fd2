-- A frame whose transport checksum is right, after an edit.
use Rattle.std.proofs.Common.{◌≡◌, ◌⊎◌, inl, inr, ℕ, ◌+◌, ◌-◌, ◌*◌, ◌/◌, ◌^◌, ◌<◌, ◌≤◌, List, length, take, drop, slice_index, nat_eq, nat_le, nat_lt, Bool, true, false, ◌&&◌, Option, Some, None, if◌then◌else◌, refl, ap, sym, subst, ◌∙◌, arith, length-take, length-take-le, length-drop}
use Rattle.std.specs.Prelude.{option_map, option_and_then}
use Rattle.std.proofs.lemmas.Bool.{le-ltb, ltb-false, eqb-true, or_left, or_right, and_parts}
use Rattle.std.proofs.lemmas.Bool.Decides.{nat_tests}
use Rattle.brick_spec.specs.Bytes.{IsBytes}
use Rattle.brick_spec.specs.Checksum.{adjusted}
use Rattle.brick_spec.specs.Header.{word_at, with_word}
use Rattle.brick_spec.specs.Layer.{Layer, header_in, payload_in, protocol_of, carries, source_of, destination_of, ip4_total, ip4_layer, tcp_header_bytes, has_tcp, tcp_layer_in, tcp_layer, udp_total, has_udp, udp_extent, udp_layer_in, udp_layer}
use Rattle.brick_spec.specs.Edit.{with_source, with_destination, edited_at, readdressed, with_tcp_source, with_tcp_destination, with_tcp_address, udp_adjusted, udp_readdressed, with_udp_source, with_udp_destination, with_udp_address}
use Rattle.brick_spec.specs.Transport.{is_tcp_right, is_udp_right, is_cut, transport_ok_in, transport_ok}
use Rattle.brick_spec.proofs.ByteLists.{IsBytes-range, IsBytes-take}
use Rattle.brick_spec.proofs.Words.{word_small, word_at-with_other, length-with_word}
use Rattle.eth_ip.specs.LayerLaws.{word_at-take}
use Rattle.eth_ip.proofs.FrameLayers.{ip4_layer_says}
use Rattle.tcp_udp.specs.LayerLaws.{has_tcp_says, has_udp_says}
use Rattle.tcp_udp.specs.TransportLaws.{TransportStaysRight}
use Rattle.tcp_udp.proofs.Segments.{tcp_at, udp_at}
use Rattle.tcp_udp.proofs.Reading.{cut_answer, tcp_answer, udp_checked, udp_unchecked, answer_in}
use Rattle.tcp_udp.proofs.Edits.{IsFrontEdit, front_words, front_checksum, front-take, inner_edit, outer_edit, byte-before, byte-behind}
use Rattle.tcp_udp.proofs.Right.{AreParts, IsReaddressed, tcp-edited-right, udp-edited-right, tcp-address-right, udp-address-right}
use Rattle.tcp_udp.proofs.Addresses.{IsSameButAddresses, with_source_same, with_destination_same, with_source_readdressed, with_destination_readdressed}

true_or_false : (b : Bool) → (b ≡ true) ⊎ (b ≡ false)
true_or_false true = inl refl
true_or_false false = inr refl

-- THE PARTS OF A FRAME THAT HAS IPV4

-- the header and the payload of the IPv4 layer
record IsIp4Frame (frame : List ℕ) (l : Layer) : Type 0 where
  words : IsBytes (header_in frame l)
  payload_words : IsBytes (payload_in frame l)
  long : 20 ≤ length (header_in frame l)
  small : length (payload_in frame l) < 2 ^ 16

ip4_frame : (frame : List ℕ) (l : Layer) → IsBytes frame → ip4_layer frame ≡ Some l → IsIp4Frame frame l
ip4_frame frame l fits h =
    let says = ip4_layer_says frame l h in
    let s = says.start in
    let m = says.long in
    let t = says.there in
    let e = says.end in
    let w = word_small frame 16 fits in
    let room = length-drop l.start frame in
    let cut = length-take-le (l.middle - l.start) (drop l.start frame) (omega arith) in
    let size = length-take (l.end - l.middle) (drop l.middle frame) in
    record {
      words = IsBytes-range frame l.start l.middle fits;
      payload_words = IsBytes-range frame l.middle l.end fits;
      long = omega arith;
      small = omega arith;
    }

-- what the protocol is
carried_protocol : (protocol : ℕ) (header : List ℕ) → carries protocol header ≡ true → protocol_of header ≡ protocol
carried_protocol protocol header h = let h₁ = and_parts _ _ h in let h₂ = and_parts _ _ h₁.1 in eqb-true _ _ h₂.0

cut-same : (frame frame' : List ℕ) (l : Layer) → length frame' ≡ length frame → ip4_total (header_in frame' l) ≡ ip4_total (header_in frame l) → is_cut frame l ≡ false → is_cut frame' l ≡ false
cut-same frame frame' l len total h = (λ i. nat_lt (len i) (l.start + total i)) ∙ h

none_some : (b : Bool) (A : Type 0) → ◌≡◌ {A = Option Bool} None (Some b) → A
none_some b A h = cc

-- where there is an answer, the frame is not cut
answer_whole : (frame : List ℕ) (l : Layer) (b : Bool) → transport_ok_in frame l ≡ Some b → is_cut frame l ≡ false
answer_whole frame l b h = elim (true_or_false (is_cut frame l)) [ inl cut ↦ none_some b (is_cut frame l ≡ false) (sym (cut_answer frame l cut) ∙ h) | inr whole ↦ whole ]

pub given_if : (b : Bool) (place : ℕ → Layer) (n : ℕ) (t : Layer) → option_map place (if b then Some n else None) ≡ Some t → (b ≡ true) × (place n ≡ t)
given_if true place n t h = (refl, cc)
given_if false place n t h = cc

-- TCP

-- the frame has TCP, and is not cut
record IsTcpFrame (frame : List ℕ) (l : Layer) : Type 0 where
  layer : ip4_layer frame ≡ Some l
  whole : is_cut frame l ≡ false
  has : has_tcp (header_in frame l) (payload_in frame l) ≡ true

tcp_has : (frame : List ℕ) (l t : Layer) → ip4_layer frame ≡ Some l → tcp_layer frame ≡ Some t → (has_tcp (header_in frame l) (payload_in frame l) ≡ true) × (tcp_at frame l ≡ t)
tcp_has frame l t h k =
    let place : ℕ → Layer = λ n. record { start = l.middle; middle = l.middle + n; end = l.middle + length (payload_in frame l) } in
    given_if (has_tcp (header_in frame l) (payload_in frame l)) place (tcp_header_bytes (payload_in frame l)) t (sym (ap (option_and_then (tcp_layer_in frame)) h) ∙ k)

some_bool : (a b : Bool) → ◌≡◌ {A = Option Bool} (Some a) (Some b) → a ≡ b
some_bool a b h = cc

-- a header edit that leaves the data offset
tcp_inner : (frame : List ℕ) (l : Layer) (edit : List ℕ → List ℕ) → IsTcpFrame frame l → IsFrontEdit 20 edit → slice_index (edit (payload_in frame l)) 12 ≡ slice_index (payload_in frame l) 12
    → is_tcp_right (header_in frame l) (edit (payload_in frame l)) ≡ true → transport_ok (edited_at edit frame (tcp_at frame l)) ≡ Some true
tcp_inner frame l edit is front offset right =
    let says = has_tcp_says (header_in frame l) (payload_in frame l) is.has in
    let least = says.least in
    let P = payload_in frame l in
    let e = inner_edit 20 (tcp_header_bytes P) (l.middle + length P) edit frame l front is.layer says.long says.there in
    let frame' = edited_at edit frame (tcp_at frame l) in
    let kept : length (edit P) ≡ length P = front.keeps P least in
    let has' : has_tcp (header_in frame' l) (payload_in frame' l) ≡ true =
    (λ i. has_tcp (e.header_is i) (e.payload_is i))
    ∙ ((λ i. carries 6 (header_in frame l) && (nat_le 20 (kept i) && (nat_le 20 (offset i / 16 * 4) && nat_le (offset i / 16 * 4) (kept i)))) ∙ is.has) in
    let whole' = cut-same frame frame' l e.long (ap ip4_total e.header_is) is.whole in
    answer_in frame' l e.layer ∙ (tcp_answer frame' l whole' has' ∙ ((λ i. Some (is_tcp_right (e.header_is i) (e.payload_is i))) ∙ ap Some right))

-- the IPv4 header with another address
tcp_outer : (frame : List ℕ) (l : Layer) (header : List ℕ) → IsTcpFrame frame l → IsSameButAddresses (header_in frame l) header
    → IsTcpFrame (edited_at (λ _. header) frame l) l × (header_in (edited_at (λ _. header) frame l) l ≡ header) × (payload_in (edited_at (λ _. header) frame l) l ≡ payload_in frame l)
tcp_outer frame l header is same =
    let frame' = edited_at (λ _. header) frame l in
    let e = outer_edit frame l header is.layer same.long same.first same.total in (
      record {
        layer = e.layer;
        whole = cut-same frame frame' l e.long (ap ip4_total e.header_is ∙ same.total) is.whole;
        has = (λ i. has_tcp (e.header_is i) (e.payload_is i)) ∙ ((λ i. same.carried 6 i && (nat_le 20 (length (payload_in frame l)) && (nat_le 20 (tcp_header_bytes (payload_in frame l)) && nat_le (tcp_header_bytes (payload_in frame l)) (length (payload_in frame l))))) ∙ is.has);
      },
      e.header_is,
      e.payload_is,
    )

tcp_parts : (frame : List ℕ) (l : Layer) → IsIp4Frame frame l → IsTcpFrame frame l → AreParts (header_in frame l) (payload_in frame l) 8
tcp_parts frame l f is =
    let says = has_tcp_says (header_in frame l) (payload_in frame l) is.has in
    let least = says.least in
    let protocol_is = carried_protocol 6 (header_in frame l) says.carried in
    record { outer = f.long; words = f.payload_words; small = f.small; long = omega arith; live = omega arith }

tcp_address : (frame : List ℕ) (l : Layer) (header : List ℕ) (old a : ℕ) → IsIp4Frame frame l → IsTcpFrame frame l → is_tcp_right (header_in frame l) (payload_in frame l) ≡ true
    → IsSameButAddresses (header_in frame l) header → IsReaddressed (header_in frame l) header old a
    → transport_ok (edited_at (λ h. with_tcp_address h old a) (edited_at (λ _. header) frame l) (tcp_at frame l)) ≡ Some true
tcp_address frame l header old a f is right same turned =
    let frame' = edited_at (λ _. header) frame l in
    let edit : List ℕ → List ℕ = λ h. with_tcp_address h old a in
    let o = tcp_outer frame l header is same in
    let P = payload_in frame l in
    let least = (has_tcp_says (header_in frame l) P is.has).least in
    let front = front_checksum 16 (λ ck. readdressed ck old a) 20 (omega arith) in
    let at : tcp_at frame' l ≡ tcp_at frame l = ap (λ (xs : List ℕ). record { start = l.middle; middle = l.middle + tcp_header_bytes xs; end = l.middle + length xs }) o.2 in
    let offset : slice_index (edit (payload_in frame' l)) 12 ≡ slice_index (payload_in frame' l) 12 =
    ap (λ xs. slice_index (edit xs) 12) o.2 ∙ (byte-before P 16 (readdressed (word_at P 16) old a) 12 (omega arith) (omega arith) ∙ ap (λ xs. slice_index xs 12) (sym o.2)) in
    let right' : is_tcp_right (header_in frame' l) (edit (payload_in frame' l)) ≡ true =
    (λ i. is_tcp_right (o.1 i) (edit (o.2 i))) ∙ tcp-address-right (header_in frame l) header P old a (tcp_parts frame l f is) turned right in
    ap (λ (t : Layer). transport_ok (edited_at edit frame' t)) (sym at) ∙ tcp_inner frame' l edit o.0 front offset right'

tcp_stays : (frame : List ℕ) (l : Layer) → IsIp4Frame frame l → IsTcpFrame frame l → is_tcp_right (header_in frame l) (payload_in frame l) ≡ true
    → TransportStaysRight frame l (tcp_at frame l) with_tcp_source with_tcp_destination with_tcp_address
tcp_stays frame l f is right =
    let H = header_in frame l in
    let P = payload_in frame l in
    let parts = tcp_parts frame l f is in
    let least = (has_tcp_says H P is.has).least in
    record {
      source_port = λ port low.
          let new = adjusted (word_at P 16) (word_at P 0) port in
          let kept = length-with_word P 0 port (omega arith) in
          let offset = byte-before (with_word P 0 port) 16 new 12 (omega arith) (omega arith) ∙ byte-behind P 0 port 12 (omega arith) (omega arith) in
          tcp_inner frame l (λ h. with_tcp_source h port) is (front_words 0 16 port (λ ck old. adjusted ck old port) 20 (omega arith) (omega arith)) offset
          (tcp-edited-right H P 0 port parts low (omega arith) (omega arith) right);
      destination_port = λ port low.
          let new = adjusted (word_at P 16) (word_at P 2) port in
          let kept = length-with_word P 2 port (omega arith) in
          let offset = byte-before (with_word P 2 port) 16 new 12 (omega arith) (omega arith) ∙ byte-behind P 2 port 12 (omega arith) (omega arith) in
          tcp_inner frame l (λ h. with_tcp_destination h port) is (front_words 2 16 port (λ ck old. adjusted ck old port) 20 (omega arith) (omega arith)) offset
          (tcp-edited-right H P 1 port parts low (omega arith) (omega arith) right);
      source = λ a low. tcp_address frame l (with_source H a) (source_of H) a f is right (with_source_same H a f.long low) (with_source_readdressed H a f.words f.long low);
      destination = λ a low. tcp_address frame l (with_destination H a) (destination_of H) a f is right (with_destination_same H a f.long low) (with_destination_readdressed H a f.words f.long low);
    }

pub tcp_law : (frame : List ℕ) (l t : Layer) → IsBytes frame → ip4_layer frame ≡ Some l → transport_ok frame ≡ Some true → tcp_layer frame ≡ Some t
    → TransportStaysRight frame l t with_tcp_source with_tcp_destination with_tcp_address
tcp_law frame l t fits h ok k =
    let found = tcp_has frame l t h k in
    let answer : transport_ok_in frame l ≡ Some true = sym (answer_in frame l h) ∙ ok in
    let whole = answer_whole frame l true answer in
    let is : IsTcpFrame frame l = record { layer = h; whole = whole; has = found.0 } in
    let right = some_bool (is_tcp_right (header_in frame l) (payload_in frame l)) true (sym (tcp_answer frame l whole found.0) ∙ answer) in
    subst (λ (x : Layer). TransportStaysRight frame l x with_tcp_source with_tcp_destination with_tcp_address) found.1 (tcp_stays frame l (ip4_frame frame l fits h) is right)

-- UDP

-- the frame has UDP, is not cut, and the UDP length is within the payload
record IsUdpFrame (frame : List ℕ) (l : Layer) : Type 0 where
  layer : ip4_layer frame ≡ Some l
  whole : is_cut frame l ≡ false
  no_tcp : carries 6 (header_in frame l) ≡ false
  has : has_udp (header_in frame l) (payload_in frame l) ≡ true
  within : udp_total (payload_in frame l) ≤ length (payload_in frame l)

without_tcp : (outer rest : List ℕ) → carries 6 outer ≡ false → has_tcp outer rest ≡ false
without_tcp outer rest h = ap (λ b. b && (nat_le 20 (length rest) && (nat_le 20 (tcp_header_bytes rest) && nat_le (tcp_header_bytes rest) (length rest)))) h

udp_is_no_tcp : (outer rest : List ℕ) → has_udp outer rest ≡ true → carries 6 outer ≡ false
udp_is_no_tcp outer rest h =
    let udp = carried_protocol 17 outer (has_udp_says outer rest h).carried in
    elim (true_or_false (carries 6 outer)) [ inl tcp ↦ absurd (let e = carried_protocol 6 outer tcp in omega arith) | inr other ↦ other ]

udp_has : (frame : List ℕ) (l t : Layer) → ip4_layer frame ≡ Some l → udp_layer frame ≡ Some t → (has_udp (header_in frame l) (payload_in frame l) ≡ true) × (udp_at frame l ≡ t)
udp_has frame l t h k =
    let place : ℕ → Layer = λ n. record { start = l.middle; middle = l.middle + n; end = l.middle + udp_extent (take n (payload_in frame l)) (length (payload_in frame l)) } in
    given_if (has_udp (header_in frame l) (payload_in frame l)) place 8 t (sym (ap (option_and_then (udp_layer_in frame)) h) ∙ k)

-- the datagram in the payload
abbrev datagram_in : List ℕ → Layer → List ℕ
datagram_in frame l = take (udp_total (payload_in frame l)) (payload_in frame l)

not_zero : (n : ℕ) → 0 < n → nat_eq n 0 ≡ false
not_zero n h = grind (arith, nat_tests)

-- a header edit that leaves the UDP length
udp_inner : (frame : List ℕ) (l : Layer) (edit : List ℕ → List ℕ) → IsUdpFrame frame l → IsFrontEdit 8 edit → udp_total (edit (payload_in frame l)) ≡ udp_total (payload_in frame l)
    → (is_udp_right (header_in frame l) (edit (datagram_in frame l)) ≡ true) × (0 < word_at (edit (datagram_in frame l)) 6) → transport_ok (edited_at edit frame (udp_at frame l)) ≡ Some true
udp_inner frame l edit is front total right =
    let H = header_in frame l in
    let P = payload_in frame l in
    let U = datagram_in frame l in
    let says = has_udp_says H P is.has in
    let least = says.least in
    let eight = says.total in
    let within = is.within in
    let e = inner_edit 8 8 (l.middle + udp_extent (take 8 P) (length P)) edit frame l front is.layer (omega arith) (omega arith) in
    let frame' = edited_at edit frame (udp_at frame l) in
    let kept : length (edit P) ≡ length P = front.keeps P least in
    let cut : length U ≡ udp_total P = length-take-le (udp_total P) P within in
    let moved : take (udp_total (edit P)) (edit P) ≡ edit U = ap (λ n. take n (edit P)) total ∙ front-take 8 (udp_total P) edit P front (omega arith) in
    let has' : has_udp (header_in frame' l) (payload_in frame' l) ≡ true =
    (λ i. has_udp (e.header_is i) (e.payload_is i)) ∙ ((λ i. carries 17 H && (nat_le 8 (kept i) && nat_le 8 (total i))) ∙ is.has) in
    let without' : has_tcp (header_in frame' l) (payload_in frame' l) ≡ false = without_tcp (header_in frame' l) (payload_in frame' l) (ap (carries 6) e.header_is ∙ is.no_tcp) in
    let short' : nat_lt (length (payload_in frame' l)) (udp_total (payload_in frame' l)) ≡ false =
    (λ i. nat_lt (length (e.payload_is i)) (udp_total (e.payload_is i))) ∙ le-ltb (length (edit P)) (udp_total (edit P)) (omega arith) in
    let field : word_at (edit P) 6 ≡ word_at (edit U) 6 = sym (word_at-take (edit P) (udp_total (edit P)) 6 (omega arith)) ∙ ap (λ xs. word_at xs 6) moved in
    let pos = right.1 in
    let plain' : nat_eq (word_at (payload_in frame' l) 6) 0 ≡ false = ap (λ xs. nat_eq (word_at xs 6) 0) e.payload_is ∙ not_zero (word_at (edit P) 6) (omega arith) in
    let whole' = cut-same frame frame' l e.long (ap ip4_total e.header_is) is.whole in
    answer_in frame' l e.layer
    ∙ (udp_checked frame' l whole' without' has' short' plain'
    ∙ ((λ i. Some (is_udp_right (e.header_is i) (take (udp_total (e.payload_is i)) (e.payload_is i)))) ∙ (ap (λ xs. Some (is_udp_right H xs)) moved ∙ ap Some right.0)))

-- the IPv4 header with another address
udp_outer : (frame : List ℕ) (l : Layer) (header : List ℕ) → IsUdpFrame frame l → IsSameButAddresses (header_in frame l) header
    → IsUdpFrame (edited_at (λ _. header) frame l) l × (header_in (edited_at (λ _. header) frame l) l ≡ header) × (payload_in (edited_at (λ _. header) frame l) l ≡ payload_in frame l)
udp_outer frame l header is same =
    let frame' = edited_at (λ _. header) frame l in
    let P = payload_in frame l in
    let e = outer_edit frame l header is.layer same.long same.first same.total in
    let size = ap length e.payload_is in
    let total = ap udp_total e.payload_is in
    let within = is.within in (
      record {
        layer = e.layer;
        whole = cut-same frame frame' l e.long (ap ip4_total e.header_is ∙ same.total) is.whole;
        no_tcp = ap (carries 6) e.header_is ∙ (same.carried 6 ∙ is.no_tcp);
        has = (λ i. has_udp (e.header_is i) (e.payload_is i)) ∙ ((λ i. same.carried 17 i && (nat_le 8 (length P) && nat_le 8 (udp_total P))) ∙ is.has);
        within = omega arith;
      },
      e.header_is,
      e.payload_is,
    )

udp_parts : (frame : List ℕ) (l : Layer) → IsIp4Frame frame l → IsUdpFrame frame l → AreParts (header_in frame l) (datagram_in frame l) 3
udp_parts frame l f is =
    let P = payload_in frame l in
    let says = has_udp_says (header_in frame l) P is.has in
    let eight = says.total in
    let within = is.within in
    let small = f.small in
    let protocol_is = carried_protocol 17 (header_in frame l) says.carried in
    let cut : length (datagram_in frame l) ≡ udp_total P = length-take-le (udp_total P) P within in
    record { outer = f.long; words = IsBytes-take (udp_total P) P f.payload_words; small = omega arith; long = omega arith; live = omega arith }

udp_address : (frame : List ℕ) (l : Layer) (header : List ℕ) (old a : ℕ) → IsIp4Frame frame l → IsUdpFrame frame l → is_udp_right (header_in frame l) (datagram_in frame l) ≡ true
    → IsSameButAddresses (header_in frame l) header → IsReaddressed (header_in frame l) header old a
    → transport_ok (edited_at (λ h. with_udp_address h old a) (edited_at (λ _. header) frame l) (udp_at frame l)) ≡ Some true
udp_address frame l header old a f is right same turned =
    let frame' = edited_at (λ _. header) frame l in
    let edit : List ℕ → List ℕ = λ h. with_udp_address h old a in
    let o = udp_outer frame l header is same in
    let P = payload_in frame l in
    let least = (has_udp_says (header_in frame l) P is.has).least in
    let front = front_checksum 6 (λ ck. udp_readdressed ck old a) 8 (omega arith) in
    let at : udp_at frame' l ≡ udp_at frame l = ap (λ (xs : List ℕ). record { start = l.middle; middle = l.middle + 8; end = l.middle + udp_extent (take 8 xs) (length xs) }) o.2 in
    let total : udp_total (edit (payload_in frame' l)) ≡ udp_total (payload_in frame' l) =
    ap (λ xs. udp_total (edit xs)) o.2 ∙ (word_at-with_other 3 2 (udp_readdressed (word_at P 6) old a) P (omega arith) (omega arith) (omega arith) ∙ ap udp_total (sym o.2)) in
    let datagram : datagram_in frame' l ≡ datagram_in frame l = ap (λ xs. take (udp_total xs) xs) o.2 in
    let kept = udp-address-right (header_in frame l) header (datagram_in frame l) old a (udp_parts frame l f is) turned right in
    let right' : is_udp_right (header_in frame' l) (edit (datagram_in frame' l)) ≡ true = (λ i. is_udp_right (o.1 i) (edit (datagram i))) ∙ kept.0 in
    let field : word_at (edit (datagram_in frame' l)) 6 ≡ word_at (edit (datagram_in frame l)) 6 = ap (λ xs. word_at (edit xs) 6) datagram in
    let pos = kept.1 in
    ap (λ (t : Layer). transport_ok (edited_at edit frame' t)) (sym at) ∙ udp_inner frame' l edit o.0 front total (right', omega arith)

udp_stays : (frame : List ℕ) (l : Layer) → IsIp4Frame frame l → IsUdpFrame frame l → is_udp_right (header_in frame l) (datagram_in frame l) ≡ true
    → TransportStaysRight frame l (udp_at frame l) with_udp_source with_udp_destination with_udp_address
udp_stays frame l f is right =
    let H = header_in frame l in
    let P = payload_in frame l in
    let U = datagram_in frame l in
    let parts = udp_parts frame l f is in
    let long = parts.long in
    let least = (has_udp_says H P is.has).least in
    record {
      source_port = λ port low.
          let kept = length-with_word P 0 port (omega arith) in
          let total = word_at-with_other 3 2 (udp_adjusted (word_at P 6) (word_at P 0) port) (with_word P 0 port) (omega arith) (omega arith) (omega arith) ∙ word_at-with_other 0 2 port P (omega arith) (omega arith) (omega arith) in
          udp_inner frame l (λ h. with_udp_source h port) is (front_words 0 6 port (λ ck old. udp_adjusted ck old port) 8 (omega arith) (omega arith)) total
          (udp-edited-right H U 0 port parts low (omega arith) (omega arith) right);
      destination_port = λ port low.
          let kept = length-with_word P 2 port (omega arith) in
          let total = word_at-with_other 3 2 (udp_adjusted (word_at P 6) (word_at P 2) port) (with_word P 2 port) (omega arith) (omega arith) (omega arith) ∙ word_at-with_other 1 2 port P (omega arith) (omega arith) (omega arith) in
          udp_inner frame l (λ h. with_udp_destination h port) is (front_words 2 6 port (λ ck old. udp_adjusted ck old port) 8 (omega arith) (omega arith)) total
          (udp-edited-right H U 1 port parts low (omega arith) (omega arith) right);
      source = λ a low. udp_address frame l (with_source H a) (source_of H) a f is right (with_source_same H a f.long low) (with_source_readdressed H a f.words f.long low);
      destination = λ a low. udp_address frame l (with_destination H a) (destination_of H) a f is right (with_destination_same H a f.long low) (with_destination_readdressed H a f.words f.long low);
    }

-- where there is an answer, the UDP length is within the payload and the field is not 0
answer_short : (frame : List ℕ) (l : Layer) (b : Bool) → has_tcp (header_in frame l) (payload_in frame l) ≡ false → has_udp (header_in frame l) (payload_in frame l) ≡ true → transport_ok_in frame l ≡ Some b
    → nat_lt (length (payload_in frame l)) (udp_total (payload_in frame l)) ≡ false
answer_short frame l b without has h =
    let long = nat_lt (length (payload_in frame l)) (udp_total (payload_in frame l)) in
    let zero = nat_eq (word_at (payload_in frame l) 6) 0 in
    elim (true_or_false long) [ inl past ↦ none_some b (long ≡ false) (sym (udp_unchecked frame l without has (or_left long zero past)) ∙ h) | inr short ↦ short ]

answer_plain : (frame : List ℕ) (l : Layer) (b : Bool) → has_tcp (header_in frame l) (payload_in frame l) ≡ false → has_udp (header_in frame l) (payload_in frame l) ≡ true → transport_ok_in frame l ≡ Some b
    → nat_eq (word_at (payload_in frame l) 6) 0 ≡ false
answer_plain frame l b without has h =
    let long = nat_lt (length (payload_in frame l)) (udp_total (payload_in frame l)) in
    let zero = nat_eq (word_at (payload_in frame l) 6) 0 in
    elim (true_or_false zero) [ inl unchecked ↦ none_some b (zero ≡ false) (sym (udp_unchecked frame l without has (or_right long zero unchecked)) ∙ h) | inr plain ↦ plain ]

pub udp_law : (frame : List ℕ) (l t : Layer) → IsBytes frame → ip4_layer frame ≡ Some l → transport_ok frame ≡ Some true → udp_layer frame ≡ Some t
    → TransportStaysRight frame l t with_udp_source with_udp_destination with_udp_address
udp_law frame l t fits h ok k =
    let found = udp_has frame l t h k in
    let answer : transport_ok_in frame l ≡ Some true = sym (answer_in frame l h) ∙ ok in
    let whole = answer_whole frame l true answer in
    let no_tcp = udp_is_no_tcp (header_in frame l) (payload_in frame l) found.0 in
    let without = without_tcp (header_in frame l) (payload_in frame l) no_tcp in
    let short = answer_short frame l true without found.0 answer in
    let plain = answer_plain frame l true without found.0 answer in
    let is : IsUdpFrame frame l = record { layer = h; whole = whole; no_tcp = no_tcp; has = found.0; within = ltb-false (length (payload_in frame l)) (udp_total (payload_in frame l)) short } in
    let right = some_bool (is_udp_right (header_in frame l) (datagram_in frame l)) true (sym (udp_checked frame l whole without found.0 short plain) ∙ answer) in
    subst (λ (x : Layer). TransportStaysRight frame l x with_udp_source with_udp_destination with_udp_address) found.1 (udp_stays frame l (ip4_frame frame l fits h) is right)
